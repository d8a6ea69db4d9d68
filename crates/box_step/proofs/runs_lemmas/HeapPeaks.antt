-- What a heap is once objects are put.
use Rattle.std.proofs.Common.{◌≡◌, ◌+◌, ◌≤◌, max, List, [], ◌∷◌, length, length-append, refl, arith}
use Rattle.std.specs.List.{flat_map}
use Rattle.box_heap.specs.Heaps.{HeapView, Object, words_of_object, with_object, with_objects}
use Rattle.box_code.specs.Machine.{used}

pub room_stays : (heap : HeapView) (more : List Object) → (with_objects heap more).room ≡ heap.room
room_stays heap [] = refl
room_stays heap (object ∷ more) = room_stays (with_object heap object) more

pub peak_after : (heap : HeapView) (more : List Object) → length heap.words ≤ heap.peak
    → (with_objects heap more).peak ≡ max heap.peak (length heap.words + used more)
peak_after heap [] low = omega (arith, low)
peak_after heap (object ∷ more) low =
    let next = with_object heap object in
    let joined = length-append heap.words (words_of_object object) in
    let long : length next.words ≡ length heap.words + (1 + length object.1) = omega (arith, joined) in
    let all = length-append (words_of_object object) (flat_map words_of_object more) in
    let total : used (object ∷ more) ≡ 1 + length object.1 + used more = omega (arith, all) in
    let rest = peak_after next more (omega (arith, long)) in
    omega (arith, rest, long, total)
