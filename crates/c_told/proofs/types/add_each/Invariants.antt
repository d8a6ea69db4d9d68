use Rattle.std.proofs.Common.{◌≡◌, drop}
use Rattle.c_types.specs.Gathered.{gathered}
use Rattle.c_told.specs.Told.{with_all}
use Rattle.c_told.proofs.types.add_each.Given as goal

abbrev pub invariant-loop-ty : goal.invariant-loop-ty
invariant-loop-ty l =
    with_all (gathered l.types) ((drop l.ty-index l.tys)) ≡ with_all (gathered l.initial.types) (l.tys)
