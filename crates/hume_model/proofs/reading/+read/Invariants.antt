use Rattle.std.proofs.Common.{◌≡◌, ◌+◌, ◌*◌, ◌-◌, map, drop, replicate}
use denote.Param.Weighed.{most}
use Rattle.hume_base.specs.declared.types.Ty.{size-Ty}
use Rattle.hume_model.specs.Readers.{Reader, read_with, read_named, read_several, after_read}
use Rattle.hume_model.proofs.WordReading.{rank, sum_size}
use Rattle.hume_model.proofs.reading.+read.Given as goal

abbrev pub decreases-read_front : goal.decreases-read_front
decreases-read_front l = 3 * (rank l.types.now l.bound + size-Ty l.ty.now)

abbrev pub decreases-read_constructor : goal.decreases-read_constructor
decreases-read_constructor l = 3 * (rank l.types.now l.bound + sum_size l.sum.now) + 2

abbrev pub decreases-read_data : goal.decreases-read_data
decreases-read_data l = 3 * rank l.types.now l.bound

abbrev pub decreases-read_items : goal.decreases-read_items
decreases-read_items l = 3 * (rank l.types.now l.bound + size-Ty l.item.now) + 1

abbrev pub decreases-read_parts : goal.decreases-read_parts
decreases-read_parts l = 3 * (rank l.types.now l.bound + most size-Ty l.tys.now) + 1

abbrev pub invariant-read_items-loop-place : goal.invariant-read_items-loop-place
invariant-read_items-loop-place l =
    let reader = read_with (read_named l.types l.bound) l.item in
    after_read l.values (read_several (replicate {A = Reader} (l.count - l._place) reader) l.rest) ≡ read_several (replicate {A = Reader} l.count reader) l.words

abbrev pub invariant-read_parts-loop-ty : goal.invariant-read_parts-loop-ty
invariant-read_parts-loop-ty l =
    let reader = read_with (read_named l.types l.bound) in
    after_read l.values (read_several (map reader (drop l.ty-index l.tys)) l.rest) ≡ read_several (map reader l.tys) l.words
