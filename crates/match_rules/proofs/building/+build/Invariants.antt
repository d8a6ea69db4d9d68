use Rattle.std.proofs.Common.{◌≡◌, ◌+◌, ◌*◌, length, map, replicate}
use denote.Param.Weighed.{most}
use Rattle.hume_base.specs.declared.types.Ty.{size-Ty}
use Rattle.hume_model.proofs.WordReading.{rank, sum_size}
use Rattle.match_rules.specs.inner.Builders.{Builder, build_with, build_named}
use Rattle.match_rules.proofs.Objects.{IsUnderway}
use Rattle.match_rules.proofs.building.+build.Given as goal

abbrev pub decreases-build_front : goal.decreases-build_front
decreases-build_front l = 3 * (rank l.types.now l.bound + size-Ty l.ty.now)

abbrev pub decreases-build_constructor : goal.decreases-build_constructor
decreases-build_constructor l = 3 * (rank l.types.now l.bound + sum_size l.sum.now) + 2

abbrev pub decreases-build_data : goal.decreases-build_data
decreases-build_data l = 3 * rank l.types.now l.bound

abbrev pub decreases-build_items : goal.decreases-build_items
decreases-build_items l = 3 * (rank l.types.now l.bound + size-Ty l.item.now) + 1

abbrev pub decreases-build_parts : goal.decreases-build_parts
decreases-build_parts l = 3 * (rank l.types.now l.bound + most size-Ty l.tys.now) + 1

abbrev pub invariant-build_items-loop-i : goal.invariant-build_items-loop-i
invariant-build_items-loop-i l = (l.place ≡ length l.fn.heap.words)
    × IsUnderway l.fn.heap 0 l.fn.count (replicate {A = Builder} l.fn.count
    (build_with (build_named l.fn.types l.fn.bound) l.fn.item)) l.fn.words l.i l.heap l.rest

abbrev pub invariant-build_parts-loop-i : goal.invariant-build_parts-loop-i
invariant-build_parts-loop-i l = (l.place ≡ length l.fn.heap.words)
    × IsUnderway l.fn.heap l.fn.tag (length l.fn.tys) (map (build_with (build_named l.fn.types l.fn.bound)) l.fn.tys) l.fn.words l.i l.heap l.rest
