use Rattle.std.proofs.Common.{◌≡◌, ◌+◌, ◌++◌, length, take, drop, ap, sym, ◌∙◌, arith}
use Rattle.std.proofs.lemmas.List.{length-take-le}
use Rattle.box_heap.specs.Heaps.{HeapView}
use Rattle.box_heap.proofs.Changing.{object_within, pushed_again, changed}
use Rattle.box_heap.proofs.heap.BoxHeap.put_changed.Goals as goal

pub push_again-requires-clause-there : goal.push_again-requires-clause-there
push_again-requires-clause-there c =
    let heap = c.args.self.now in
    let many = c.count-count.ensures c.requires.0 c.requires.2 c.requires.1 c.requires.3 in
    let within = object_within heap c.requires.0 c.requires.1 c.args.at c.requires.2 c.requires.3 in
    omega (arith, many, within)

pub change_field-requires : goal.change_field-requires
change_field-requires c =
    let heap = c.args.self.now in
    let many = c.count-count.ensures c.requires.0 c.requires.2 c.requires.1 c.requires.3 in
    let more = pushed_again heap c.requires.0 c.requires.1 c.args.at c.requires.2 c.requires.3 c.push_again.new.self
    (c.push_again.ensures ∙ ap (λ n. record heap { words = heap.words ++ take (1 + n) (drop c.args.at heap.words) }) many) in
    let used : c.self.inside.used ≡ length heap.words = sym (length-take-le c.self.inside.used c.self.inside.words.items c.self.invariant.0) ∙ ap (λ (h : HeapView). length h.words) c.self.view_is in
    omega (arith, more, used)

pub returns-clause-heap : goal.returns-clause-heap
returns-clause-heap c = λ objects object has found.
    let heap = c.args.self.now in
    let many = c.count-count.ensures objects object has found in
    let used : c.self.inside.used ≡ length heap.words = sym (length-take-le c.self.inside.used c.self.inside.words.items c.self.invariant.0) ∙ ap (λ (h : HeapView). length h.words) c.self.view_is in
    changed heap objects has c.args.at object found c.args.i c.args.word c.self.inside.used c.push_again.new.self c.change_field.new.self c.raise_peak.new.self used
    (c.push_again.ensures ∙ ap (λ n. record heap { words = heap.words ++ take (1 + n) (drop c.args.at heap.words) }) many)
    c.change_field.ensures c.raise_peak.ensures
