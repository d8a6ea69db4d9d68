use Rattle.std.proofs.Common.{◌≡◌}
use Rattle.hume_net.specs.Sides.{numbered, stepped}
use Rattle.hume_net.proofs.phases.all_asserted.Given as goal

abbrev pub invariant-loop-number : goal.invariant-loop-number
invariant-loop-number l = l.halves ≡ numbered l.number (stepped l.core l.state)
