use Rattle.std.proofs.Common.{◌≡◌}
use Rattle.hume_net.specs.Sides.{gathered}
use Rattle.hume_net.proofs.phases.gather.Given as goal

abbrev pub invariant-loop-half : goal.invariant-loop-half
invariant-loop-half l = l.state ≡ gathered l.yielded l.initial.state.wires
