use Rattle.std.proofs.Common.{◌+◌, ◌*◌, map, take}
use Rattle.std.specs.List.{flat_map}
use denote.Param.Weighed.{most}
use Rattle.hume_base.specs.declared.types.Value.{size-Value}
use Rattle.hume_base.specs.Flat.{joined}
use Rattle.wire_cells.specs.inner.Written.{flat_below, IsWritten}
use Rattle.wire_cells.proofs.flat_words.+write.Given as goal

abbrev pub decreases-write_value : goal.decreases-write_value
decreases-write_value l = 4 * size-Value l.value.now + 2

abbrev pub decreases-write_data : goal.decreases-write_data
decreases-write_data l = 4 * size-Value l.value.now + 1

abbrev pub decreases-write_constructor : goal.decreases-write_constructor
decreases-write_constructor l = 4 * size-Value l.value.now

abbrev pub decreases-write_parts : goal.decreases-write_parts
decreases-write_parts l = 4 * most size-Value l.values.now + 3

abbrev pub decreases-write_items : goal.decreases-write_items
decreases-write_items l = 4 * most size-Value l.values.now + 3

abbrev pub invariant-write_parts-loop-i : goal.invariant-write_parts-loop-i
invariant-write_parts-loop-i l =
    IsWritten l.initial.into l.at (joined (map (flat_below l.types l.bound) (take l.i l.tys)) (take l.i l.values)) l.into l.end

abbrev pub invariant-write_items-loop-i : goal.invariant-write_items-loop-i
invariant-write_items-loop-i l = IsWritten l.initial.into l.at (flat_map (flat_below l.types l.bound l.item) (take l.i l.values)) l.into l.end
