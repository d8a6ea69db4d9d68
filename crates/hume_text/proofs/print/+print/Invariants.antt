use Rattle.std.proofs.Common.{◌≡◌, ◌+◌, ◌*◌, ◌-◌, ◌++◌, [], take, map, drop, replicate}
use denote.Param.Weighed.{most}
use Rattle.hume_base.specs.declared.types.Ty.{size-Ty}
use Rattle.hume_text.specs.inner.Printers.{Printer, print_with, print_named, print_several, print_fields}
use Rattle.hume_text.proofs.Ranks.{rank, sum_size}
use Rattle.hume_text.proofs.print.+print.Given as goal

abbrev pub decreases-print_front : goal.decreases-print_front
decreases-print_front l = 4 * (rank l.types.now l.bound + size-Ty l.ty.now)

abbrev pub decreases-print_field : goal.decreases-print_field
decreases-print_field l = 4 * (rank l.types.now l.bound + size-Ty l.ty.now) + 1

abbrev pub decreases-print_fields : goal.decreases-print_fields
decreases-print_fields l = 4 * (rank l.types.now l.bound + most size-Ty l.tys.now) + 2

abbrev pub decreases-print_constructor : goal.decreases-print_constructor
decreases-print_constructor l = 4 * (rank l.types.now l.bound + sum_size l.sum.now) + 3

abbrev pub decreases-print_data : goal.decreases-print_data
decreases-print_data l = 4 * rank l.types.now l.bound

abbrev pub decreases-print_vector : goal.decreases-print_vector
decreases-print_vector l = 4 * (rank l.types.now l.bound + size-Ty l.item.now) + 1

abbrev pub decreases-print_tuple : goal.decreases-print_tuple
decreases-print_tuple l = 4 * (rank l.types.now l.bound + most size-Ty l.tys.now) + 2

abbrev pub invariant-print_fields-loop-ty : goal.invariant-print_fields-loop-ty
invariant-print_fields-loop-ty l =
    let printer = print_with (print_named l.types l.bound) in
    let left = print_fields l.types printer (drop l.ty-index l.tys) l.rest in
    let all = print_fields l.types printer l.tys l.words in
    record {
      text : take l.chunk.room (l.chunk.filled.items ++ left.0) ≡ take l.initial.chunk.room (l.initial.chunk.filled.items ++ all.0);
      room : l.chunk.room ≡ l.initial.chunk.room;
      rest : left.1 ≡ all.1;
    }

abbrev pub invariant-print_tuple-loop-ty : goal.invariant-print_tuple-loop-ty
invariant-print_tuple-loop-ty l =
    let printer = print_with (print_named l.types l.bound) in
    let left = print_several l.before (map printer (drop l.ty-index l.tys)) l.rest in
    let all = print_several [] (map printer l.tys) l.words in
    record {
      text : take l.chunk.room (l.chunk.filled.items ++ left.0) ≡ take l.initial.chunk.room (l.initial.chunk.filled.items ++ all.0);
      room : l.chunk.room ≡ l.initial.chunk.room;
      rest : left.1 ≡ all.1;
    }

abbrev pub invariant-print_vector-loop-place : goal.invariant-print_vector-loop-place
invariant-print_vector-loop-place l =
    let printer = print_with (print_named l.types l.bound) l.item in
    let left = print_several l.before (replicate {A = Printer} (l.count - l._place) printer) l.rest in
    let all = print_several [] (replicate {A = Printer} l.count printer) l.words in
    record {
      text : take l.chunk.room (l.chunk.filled.items ++ left.0) ≡ take l.initial.chunk.room (l.initial.chunk.filled.items ++ all.0);
      room : l.chunk.room ≡ l.initial.chunk.room;
      rest : left.1 ≡ all.1;
    }
