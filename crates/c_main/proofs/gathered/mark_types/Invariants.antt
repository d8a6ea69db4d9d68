use Rattle.std.proofs.Common.{◌≡◌, drop}
use Rattle.std.specs.List.{flat_map}
use Rattle.c_main.specs.Found.{data_in}
use Rattle.c_main.specs.inner.Marks.{with_marks}
use Rattle.c_main.proofs.gathered.mark_types.Given as goal

abbrev pub invariant-loop-ty : goal.invariant-loop-ty
invariant-loop-ty l =
    with_marks l.marks (flat_map data_in (drop l.ty-index l.tys)) ≡ with_marks l.initial.marks (flat_map data_in l.tys)
