use Rattle.std.proofs.Common.{◌≡◌}
use Rattle.check_typing.specs.Cores.{cores, some_too_wide}
use Rattle.check_cores.proofs.gather.apart.Given as goal

abbrev pub invariant-loop-part : goal.invariant-loop-part
invariant-loop-part l = (l.parts ≡ cores l.yielded) × (l.some_too_wide ≡ some_too_wide l.yielded)
