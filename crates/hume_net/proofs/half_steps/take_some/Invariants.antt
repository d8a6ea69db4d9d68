use Rattle.std.proofs.Common.{◌≡◌}
use Rattle.hume_net.specs.HalfSteps.{without_taken}
use Rattle.hume_net.proofs.half_steps.take_some.Given as goal

abbrev pub invariant-loop-wire : goal.invariant-loop-wire
invariant-loop-wire l = l.side ≡ without_taken l.taken l.yielded
