use Rattle.std.proofs.Common.{◌≡◌, ◌≤◌, ◌+◌, ◌*◌, ◌-◌, length, true, take, map, drop, replicate}
use denote.Param.Weighed.{most}
use Rattle.hume_base.specs.declared.types.Ty.{size-Ty}
use Rattle.hume_text.specs.inner.Readers.{Reader, read_with, read_named, read_several, read_fields}
use Rattle.hume_text.proofs.Ranks.{rank, sum_size}
use Rattle.hume_text.proofs.walk.+read.Given as goal

abbrev pub decreases-read_front : goal.decreases-read_front
decreases-read_front l = 4 * (rank l.types.now l.bound + size-Ty l.ty.now)

abbrev pub decreases-read_field : goal.decreases-read_field
decreases-read_field l = 4 * (rank l.types.now l.bound + size-Ty l.ty.now) + 1

abbrev pub decreases-read_part : goal.decreases-read_part
decreases-read_part l = 4 * (rank l.types.now l.bound + size-Ty l.ty.now) + 1

abbrev pub decreases-read_fields : goal.decreases-read_fields
decreases-read_fields l = 4 * (rank l.types.now l.bound + most size-Ty l.tys.now) + 2

abbrev pub decreases-read_constructor : goal.decreases-read_constructor
decreases-read_constructor l = 4 * (rank l.types.now l.bound + sum_size l.sum.now) + 3

abbrev pub decreases-read_data : goal.decreases-read_data
decreases-read_data l = 4 * rank l.types.now l.bound

abbrev pub decreases-read_vector : goal.decreases-read_vector
decreases-read_vector l = 4 * (rank l.types.now l.bound + size-Ty l.item.now) + 2

abbrev pub decreases-read_tuple : goal.decreases-read_tuple
decreases-read_tuple l = 4 * (rank l.types.now l.bound + most size-Ty l.tys.now) + 2

abbrev pub invariant-read_fields-loop-ty : goal.invariant-read_fields-loop-ty
invariant-read_fields-loop-ty l =
    let room = length l.initial.into in
    let reader = read_with room (read_named l.types room l.bound) in
    record {
      same : length l.into ≡ room;
      within : l.end ≤ room;
      onward : l.at ≤ l.end;
      read : read_fields l.types reader (drop l.ty-index l.tys) (take l.end l.into) l.rest ≡ read_fields l.types reader l.tys (take l.at l.initial.into) l.line;
    }

abbrev pub invariant-read_tuple-loop-ty : goal.invariant-read_tuple-loop-ty
invariant-read_tuple-loop-ty l =
    let room = length l.initial.into in
    let reader = read_with room (read_named l.types room l.bound) in
    record {
      same : length l.into ≡ room;
      within : l.end ≤ room;
      onward : l.at ≤ l.end;
      read : read_several l.first (map reader (drop l.ty-index l.tys)) (take l.end l.into) l.rest ≡ read_several true (map reader l.tys) (take l.at l.initial.into) l.initial.rest;
    }

abbrev pub invariant-read_vector-loop-place : goal.invariant-read_vector-loop-place
invariant-read_vector-loop-place l =
    let room = length l.initial.into in
    let reader = read_with room (read_named l.types room l.bound) l.item in
    record {
      same : length l.into ≡ room;
      within : l.end ≤ room;
      onward : l.at ≤ l.end;
      read : read_several l.first (replicate {A = Reader} (l.count - l._place) reader) (take l.end l.into) l.rest ≡ read_several true (replicate {A = Reader} l.count reader) (take l.at l.initial.into) l.initial.rest;
    }
