use Rattle.std.proofs.Common.{◌≡◌, ◌+◌, ◌*◌, drop}
use denote.Param.Weighed.{most}
use Rattle.std.specs.List.{flat_map}
use Rattle.hume_base.specs.declared.types.Ty.{size-Ty}
use Rattle.c_types.specs.Gathered.{with_each}
use Rattle.c_main.specs.Found.{parts_of}
use Rattle.c_main.proofs.gathered.+gather.Given as goal

abbrev pub decreases-gather : goal.decreases-gather
decreases-gather l = 2 * size-Ty l.ty.now

abbrev pub decreases-gather_each : goal.decreases-gather_each
decreases-gather_each l = 2 * most size-Ty l.tys.now + 1

abbrev pub invariant-gather_each-loop-ty : goal.invariant-gather_each-loop-ty
invariant-gather_each-loop-ty l =
    with_each l.found (flat_map parts_of (drop l.ty-index l.tys)) ≡ with_each l.initial.found (flat_map parts_of l.tys)
