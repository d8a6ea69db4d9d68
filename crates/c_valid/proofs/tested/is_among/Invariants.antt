use Rattle.std.proofs.Common.{◌≡◌, drop}
use Rattle.std.specs.List.{list_any}
use Rattle.c_types.specs.inner.SameTypes.{is_same}
use Rattle.c_valid.proofs.tested.is_among.Given as goal

abbrev pub invariant-loop-other : goal.invariant-loop-other
invariant-loop-other l = list_any (λ other. is_same other l.ty) (drop l.other-index l.tys) ≡ list_any (λ other. is_same other l.ty) l.tys
