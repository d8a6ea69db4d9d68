use Rattle.std.proofs.Common.{◌≡◌, ◌+◌, ◌-◌, ◌<◌, ◌∙◌, ◌++◌, ◌∷◌, [], codes, map, drop, take, replicate, ap, sym, Some, slice_get, arith, rules}
use Rattle.hume_text.specs.inner.Printers.{Printer, print_with, print_named, print_several}
use Rattle.hume_text.proofs.Printing.{several-next, drop-seen, items-more, closed-text}
use Rattle.hume_text.proofs.Ranks.{rank, sum_size, rank-falls}
use Rattle.hume_text.proofs.print.+print.Goals as goal

pub print_data-print_constructor-rest-requires : goal.print_data-print_constructor-rest-requires
print_data-print_constructor-rest-requires t c =
    let found : slice_get c.args.types.now.sums c.args.number ≡ Some c.in-Some.sum.now = search rules in
    let falls : rank c.args.types.now c.args.number + sum_size c.in-Some.sum.now + 1 < rank c.args.types.now c.args.bound =
    rank-falls _ _ _ _ found (omega arith) in
    omega arith

pub print_tuple-loop-ty-preserved : goal.print_tuple-loop-ty-preserved
print_tuple-loop-ty-preserved t c =
    let printer = print_with (print_named c.args.types.now c.args.bound) in
    let here : map printer (drop c.loop-ty.ty-index c.args.tys.now) ≡ printer c.deref.result.now ∷ map printer (drop (c.loop-ty.ty-index + 1) c.args.tys.now) = ap (map printer) (drop-seen c.args.tys.now c.loop-ty.ty-index c.ty-item.result c.deref.result.now (omega (arith, c.loop-ty-test.true)) c.deref.ensures c.ty-item.is) in
    let next = several-next _ _ _ c.loop-ty.chunk.filled.items c.loop-ty.before.now c.add-in-loop-ty.new.self.filled.items c.print_front-rest.new.chunk.filled.items c.loop-ty.rest.now c.print_front-rest.result.now
    (printer c.deref.result.now) _ (map printer (drop (c.loop-ty.ty-index + 1) c.args.tys.now)) _ _ here c.add-in-loop-ty.ensures.room c.print_front-rest.ensures.room c.add-in-loop-ty.ensures.bytes c.print_front-rest.ensures.text c.print_front-rest.ensures.rest c.loop-ty.invariant.text c.loop-ty.invariant.rest in
    record {
      text = next.0;
      room = c.print_front-rest.ensures.room ∙ c.add-in-loop-ty.ensures.room ∙ c.loop-ty.invariant.room;
      rest = next.1;
    }

pub print_vector-loop-place-preserved : goal.print_vector-loop-place-preserved
print_vector-loop-place-preserved t c =
    let printer = print_with (print_named c.args.types.now c.args.bound) c.args.item.now in
    let here = items-more printer c.args.count c.loop-place._place (omega (arith, c.loop-place-test.true)) in
    let next = several-next _ _ _ c.loop-place.chunk.filled.items c.loop-place.before.now c.add-in-loop-place.new.self.filled.items c.print_front-rest.new.chunk.filled.items c.loop-place.rest.now c.print_front-rest.result.now
    printer _ (replicate {A = Printer} (c.args.count - (c.loop-place._place + 1)) printer) _ _ here c.add-in-loop-place.ensures.room c.print_front-rest.ensures.room c.add-in-loop-place.ensures.bytes c.print_front-rest.ensures.text c.print_front-rest.ensures.rest c.loop-place.invariant.text c.loop-place.invariant.rest in
    record {
      text = next.0;
      room = c.print_front-rest.ensures.room ∙ c.add-in-loop-place.ensures.room ∙ c.loop-place.invariant.room;
      rest = next.1;
    }

pub print_vector-returns-clause-text : goal.print_vector-returns-clause-text
print_vector-returns-clause-text t c =
    let printer = print_with (print_named c.args.types.now c.args.bound) c.args.item.now in
    let none : c.args.count - c.loop-place._place ≡ 0 = omega (arith, c.loop-place-test.false) in
    closed-text _ _ _ c.args.chunk.now.filled.items (codes "<<") c.add.new.self.filled.items
    (print_several [] (replicate {A = Printer} c.args.count printer) c.args.words.now).0 c.loop-place.chunk.filled.items (codes ">>") c.add-2.new.self.filled.items
    c.add.ensures.room c.loop-place.invariant.room c.add.ensures.bytes
    (ap (λ n. take c.loop-place.chunk.room (c.loop-place.chunk.filled.items ++ (print_several c.loop-place.before.now (replicate {A = Printer} n printer) c.loop-place.rest.now).0)) (sym none) ∙ c.loop-place.invariant.text)
    c.add-2.ensures.bytes
