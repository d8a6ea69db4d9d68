use Rattle.std.proofs.Common.{◌≡◌, ℕ, suc, ◌+◌, max, arith, subst, map, take}
use Rattle.hume_base.specs.Sizes.{greatest}
use Rattle.trace_print.specs.Rooms.{wire_room}
use Rattle.trace_print.proofs.Greatest.{greatest_more}
use Rattle.trace_print.proofs.table_lemmas.Bounds.{item_at}
use Rattle.trace_print.proofs.wire_lines.line_bound.Goals as goal

pub loop-w-preserved : goal.loop-w-preserved
loop-w-preserved c =
    let f = wire_room c.args.core.now.types in
    let wires = c.args.core.now.wires in
    let found = item_at wires c.loop-w.w (omega (arith, c.loop-w-test.true, c.len-w-end.ensures)) in
    let here = c.bound_at.ensures.room found.0 found.1 in
    let more = greatest_more f wires c.loop-w.w found.0 found.1 in
    let next : suc c.loop-w.w ≡ c.loop-w.w + 1 = omega arith in
    let last : c.max-most.result ≡ greatest (map f (take (suc c.loop-w.w) wires)) =
    joined c.max-most.result c.bound_at.result c.loop-w.most (f found.0) (greatest (map f (take c.loop-w.w wires))) _ c.max-most.ensures here c.loop-w.invariant.0 more in (
      subst (λ k. c.max-most.result ≡ greatest (map f (take k wires))) next last,
      omega (arith, c.max-most.ensures, c.bound_at.ensures.few, c.loop-w.invariant.1),
    )
  where
    joined : (new here most f before more : ℕ) → new ≡ max here most → here ≡ f → most ≡ before → more ≡ max f before → new ≡ more
    joined new here most f before more a b c d = omega (arith, a, b, c, d)

pub overflow_add-result : goal.overflow_add-result
overflow_add-result c = omega (arith, c.loop-w.invariant.1)
