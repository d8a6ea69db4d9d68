use Rattle.std.proofs.Common.{◌≡◌}
use Rattle.check_typing.specs.Cores.{arm_cores, some_arm_too_wide}
use Rattle.check_cores.proofs.gather.arms_apart.Given as goal

abbrev pub invariant-loop-pattern : goal.invariant-loop-pattern
invariant-loop-pattern l = (l.arms ≡ arm_cores l.yielded) × (l.some_too_wide ≡ some_arm_too_wide l.yielded)
