use Rattle.std.proofs.Common.{◌≡◌}
use Rattle.hume_net.specs.Sides.{numbered, executed}
use Rattle.hume_net.proofs.phases.all_executed.Given as goal

abbrev pub invariant-loop-number : goal.invariant-loop-number
invariant-loop-number l = l.halves ≡ numbered l.number (executed l.core l.state)
