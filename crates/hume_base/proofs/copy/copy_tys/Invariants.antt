use Rattle.std.proofs.Common.{◌≡◌, take}
use Rattle.hume_base.proofs.copy.copy_tys.Given as goal

abbrev pub invariant-loop-ty : goal.invariant-loop-ty
invariant-loop-ty l = l.copies ≡ take l.ty-index l.tys
