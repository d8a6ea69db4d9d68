use Rattle.std.proofs.Common.{◌≡◌, ◌++◌, length, take, drop, ap, sym, ◌∙◌, arith}
use Rattle.std.proofs.lemmas.List.{length-take-le}
use Rattle.box_heap.specs.Heaps.{HeapView}
use Rattle.box_heap.proofs.Changing.{again}
use Rattle.box_heap.proofs.heap.BoxHeap.push_again.Goals as goal

pub returns : goal.returns
returns c =
    let heap = c.args.self.now in
    let inside = c.self.inside in
    let view = c.self.view_is in
    let words : take inside.used inside.words.items ≡ heap.words = ap (λ (h : HeapView). h.words) view in
    let room : length inside.words.items ≡ heap.room = ap (λ (h : HeapView). h.room) view in
    let used : length heap.words ≡ inside.used = sym (ap length words) ∙ length-take-le inside.used inside.words.items c.self.invariant.0 in
    let more = again inside.words.items c.copy_within.new.self.items inside.used c.args.from c.args.count c.copy_within.ensures.items
    (omega (arith, c.requires.there, used)) (omega (arith, c.requires.fits, used, room)) in
    let long : length c.copy_within.new.self.items ≡ heap.room = grind arith in
    ap (λ ws. record { words = ws; peak = inside.peak; room = length c.copy_within.new.self.items })
    (more ∙ ap (λ ws. ws ++ take c.args.count (drop c.args.from ws)) words)
    ∙ ap (λ n. record { words = heap.words ++ take c.args.count (drop c.args.from heap.words); peak = inside.peak; room = n }) long
    ∙ ap (λ n. record { words = heap.words ++ take c.args.count (drop c.args.from heap.words); peak = n; room = heap.room })
    (ap (λ (h : HeapView). h.peak) view)
