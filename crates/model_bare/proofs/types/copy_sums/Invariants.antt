use Rattle.std.proofs.Common.{◌≡◌, take}
use Rattle.model_bare.proofs.types.copy_sums.Given as goal

abbrev pub invariant-loop-sum : goal.invariant-loop-sum
invariant-loop-sum l = l.copies ≡ take l.sum-index l.sums
