use Rattle.std.proofs.Common.{◌≡◌, take}
use Rattle.hume_base.proofs.copy.+same_ty.Given as goal

abbrev pub invariant-same_tys-loop-i : goal.invariant-same_tys-loop-i
invariant-same_tys-loop-i l = take l.i l.lefts ≡ take l.i l.rights
