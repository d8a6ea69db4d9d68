use Rattle.hume_calls.proofs.Finishing.{Finishing}
use Rattle.hume_calls.proofs.run.finishes.finish_places.Given as goal

abbrev pub invariant-loop-node : goal.invariant-loop-node
invariant-loop-node l = Finishing l.core l.places l.out l.finishes.items l.node
