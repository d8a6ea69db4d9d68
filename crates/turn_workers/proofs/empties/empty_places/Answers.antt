use Rattle.std.proofs.Common.{[], ◌∷◌, length, length-append, None, Some, slice_get, ap, sym, ◌∙◌, inl, inr, arith}
use Rattle.turn_workers.proofs.Members.{one_more}
use Rattle.turn_workers.proofs.empties.empty_places.Goals as goal

pub push_reserved-requires : goal.push_reserved-requires
push_reserved-requires c =
    let count = c.loop-k.invariant.count in
    let room = c.loop-k.invariant.room in
    let ok = c.loop-k.home.ok.0 in
    let less = c.loop-k-test.true in
    omega (arith, count, room, ok, less)

pub loop-k-preserved : goal.loop-k-preserved
loop-k-preserved c =
    let items = c.push_reserved.ensures.items in
    let long = ap length items in
    let more = length-append c.loop-k.home.items (None ∷ []) in
    let count = c.loop-k.invariant.count in
    let room = c.loop-k.invariant.room in
    let same = c.push_reserved.ensures.capacity in
    record {
      count = omega (arith, long, more, count);
      room = omega (arith, room, same);
      bare = λ w cell at. elim (one_more c.loop-k.home.items None w (Some cell) (ap (λ xs. slice_get xs w) (sym items) ∙ at)) [
        | inl before ↦ c.loop-k.invariant.bare w cell before
        | inr last ↦ absurd (let e = last.1 in cc)
      ];
    }
