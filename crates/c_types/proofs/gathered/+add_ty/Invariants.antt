use Rattle.std.proofs.Common.{◌≡◌, drop}
use Rattle.std.specs.List.{flat_map}
use Rattle.c_types.specs.Gathered.{made_of, with_each}
use Rattle.c_types.proofs.gathered.+add_ty.Given as goal

abbrev pub invariant-add_each-loop-ty : goal.invariant-add_each-loop-ty
invariant-add_each-loop-ty l = with_each l.tys (flat_map made_of (drop l.ty-index l.parts)) ≡ with_each l.initial.tys (flat_map made_of l.parts)
