use Rattle.std.proofs.Common.{◌≡◌, take}
use Rattle.hume_base.proofs.copy.share_tys.Given as goal

abbrev pub invariant-loop-ty : goal.invariant-loop-ty
invariant-loop-ty l = l.shared ≡ take l.ty-index l.tys
