use Rattle.std.proofs.Common.{◌≡◌, ◌||◌}
use Rattle.std.specs.List.{list_any}
use Rattle.check_typing.specs.Results.{result_arm_cores}
use Rattle.check_cores.proofs.results.gather.arms_apart.Given as goal

abbrev pub invariant-loop-pattern : goal.invariant-loop-pattern
invariant-loop-pattern l = (l.arms ≡ result_arm_cores l.yielded) × (l.some_too_wide ≡ list_any (λ arm. arm.0.1 || arm.1.1) l.yielded)
