use Rattle.std.proofs.Common.{◌≡◌}
use Rattle.check_typing.specs.Patterns.{pat_cores, some_pat_too_wide}
use Rattle.check_cores.proofs.gather.patterns_apart.Given as goal

abbrev pub invariant-loop-part : goal.invariant-loop-part
invariant-loop-part l = (l.parts ≡ pat_cores l.yielded) × (l.some_too_wide ≡ some_pat_too_wide l.yielded)
