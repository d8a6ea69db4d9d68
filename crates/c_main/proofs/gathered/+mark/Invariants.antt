use Rattle.std.proofs.Common.{◌≡◌, ◌+◌, ◌*◌, drop}
use denote.Param.Weighed.{most}
use Rattle.std.specs.List.{flat_map}
use Rattle.hume_base.specs.declared.types.Ty.{size-Ty}
use Rattle.c_main.specs.Found.{data_in}
use Rattle.c_main.specs.inner.Marks.{with_marks}
use Rattle.c_main.proofs.gathered.+mark.Given as goal

abbrev pub decreases-mark : goal.decreases-mark
decreases-mark l = 2 * size-Ty l.ty.now

abbrev pub decreases-mark_each : goal.decreases-mark_each
decreases-mark_each l = 2 * most size-Ty l.tys.now + 1

abbrev pub invariant-mark_each-loop-ty : goal.invariant-mark_each-loop-ty
invariant-mark_each-loop-ty l =
    with_marks l.marks (flat_map data_in (drop l.ty-index l.tys)) ≡ with_marks l.initial.marks (flat_map data_in l.tys)
