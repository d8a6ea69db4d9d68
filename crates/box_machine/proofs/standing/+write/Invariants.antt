use Rattle.std.proofs.Common.{◌≡◌, ◌+◌, ◌*◌, map, take, Some}
use denote.Param.Weighed.{most}
use Rattle.hume_base.specs.declared.types.Ty.{size-Ty}
use Rattle.hume_model.proofs.WordReading.{rank, sum_size}
use Rattle.box_heap.specs.Heaps.{Object, object_at}
use Rattle.box_code.specs.FlatObjects.{joined_words, item_words}
use Rattle.box_machine.specs.inner.Stepping.{objects_in}
use Rattle.box_machine.specs.inner.Written.{AreWritten, flat_below}
use Rattle.box_machine.proofs.standing.+write.Given as goal

abbrev pub decreases-write_value : goal.decreases-write_value
decreases-write_value l = 3 * (rank l.types.now l.bound + size-Ty l.ty.now)

abbrev pub decreases-write_constructor : goal.decreases-write_constructor
decreases-write_constructor l = 3 * (rank l.types.now l.bound + sum_size l.sum.now) + 2

abbrev pub decreases-write_data : goal.decreases-write_data
decreases-write_data l = 3 * rank l.types.now l.bound

abbrev pub decreases-write_items : goal.decreases-write_items
decreases-write_items l = 3 * (rank l.types.now l.bound + size-Ty l.item.now) + 1

abbrev pub decreases-write_parts : goal.decreases-write_parts
decreases-write_parts l = 3 * (rank l.types.now l.bound + most size-Ty l.tys.now) + 1

abbrev pub invariant-write_parts-loop-i : goal.invariant-write_parts-loop-i
invariant-write_parts-loop-i l =
    (object : Object) → object_at (objects_in l.heap) l.place ≡ Some object
    → AreWritten (joined_words (map (flat_below l.types l.bound (objects_in l.heap)) (take l.i l.tys)) (take l.i object.1)) l.initial.into l.at l.into l.end

abbrev pub invariant-write_items-loop-i : goal.invariant-write_items-loop-i
invariant-write_items-loop-i l =
    (object : Object) → object_at (objects_in l.heap) l.place ≡ Some object
    → AreWritten (item_words (flat_below l.types l.bound (objects_in l.heap) l.item) (take l.i object.1)) l.initial.into l.at l.into l.end
