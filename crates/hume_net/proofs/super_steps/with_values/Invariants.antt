use Rattle.std.proofs.Common.{◌≡◌}
use Rattle.hume_net.specs.HalfSteps.{with_asserted}
use Rattle.hume_net.proofs.super_steps.with_values.Given as goal

abbrev pub invariant-loop-wire : goal.invariant-loop-wire
invariant-loop-wire l = l.side ≡ with_asserted l.values l.yielded
