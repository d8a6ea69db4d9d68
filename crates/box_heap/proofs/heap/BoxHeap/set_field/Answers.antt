use Rattle.std.proofs.Common.{◌≡◌, ◌+◌, length, take, slice_set, ap, sym, ◌∙◌, arith}
use Rattle.std.proofs.lemmas.List.{length-set}
use Rattle.std.proofs.Math.Seq.{take-set-lt}
use Rattle.std.proofs.lemmas.List.{length-take-le}
use Rattle.box_heap.specs.Heaps.{HeapView}
use Rattle.box_heap.proofs.FieldChanges.{field_changed}
use Rattle.box_heap.proofs.heap.BoxHeap.set_field.Goals as goal

pub returns-clause-words : goal.returns-clause-words
returns-clause-words c =
    let heap = c.args.self.now in
    let inside = c.self.inside in
    let place = c.args.at + 1 + c.args.i in
    let items = slice_set inside.words.items place c.args.word in
    let view = c.self.view_is in
    let words : take inside.used inside.words.items ≡ heap.words = ap (λ (h : HeapView). h.words) view in
    let used : length heap.words ≡ inside.used = sym (ap length words) ∙ length-take-le inside.used inside.words.items c.self.invariant.0 in
    let set : take inside.used items ≡ slice_set heap.words place c.args.word =
    take-set-lt inside.used inside.words.items place c.args.word (omega (arith, used, c.requires)) ∙ ap (λ ws. slice_set ws place c.args.word) words in
    let room : length items ≡ heap.room = length-set inside.words.items place c.args.word ∙ ap (λ (h : HeapView). h.room) view in
    ap (λ ws. record { words = ws; peak = inside.peak; room = length items }) set
    ∙ ap (λ n. record { words = slice_set heap.words place c.args.word; peak = inside.peak; room = n }) room
    ∙ ap (λ n. record { words = slice_set heap.words place c.args.word; peak = n; room = heap.room }) (ap (λ (h : HeapView). h.peak) view)

pub returns-clause-objects : goal.returns-clause-objects
returns-clause-objects c = λ objects object has found within.
    field_changed c.args.self.now _ objects c.args.at object c.args.i c.args.word has found within (returns-clause-words c)
