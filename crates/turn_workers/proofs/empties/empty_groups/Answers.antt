use Rattle.std.proofs.Common.{[], ◌∷◌, ℕ, length, length-append, slice_get, ap, sym, ◌∙◌, subst, inl, inr, arith}
use Rattle.turn_workers.specs.declared.cells.Group.{Group}
use Rattle.turn_workers.specs.inner.Gathered.{IsGathered}
use Rattle.turn_workers.proofs.Members.{one_more}
use Rattle.turn_workers.proofs.empties.empty_groups.Goals as goal

pub loop-i-preserved : goal.loop-i-preserved
loop-i-preserved c =
    let shape = c.args.shape.now in
    let group = c.in_ok-group.group in
    let items = c.push_reserved.ensures.items in
    let long = ap length items in
    let more = length-append c.loop-i.groups.items (group ∷ []) in
    let count = c.loop-i.invariant.count in
    let room = c.loop-i.invariant.room in
    let same = c.push_reserved.ensures.capacity in
    record {
      count = omega (arith, long, more, count);
      room = omega (arith, room, same);
      groups = λ cells. record {
        each = λ i other at. elim (one_more c.loop-i.groups.items group i other (ap (λ xs. slice_get xs i) (sym items) ∙ at)) [
          | inl before ↦ (c.loop-i.invariant.groups cells).each i other before
          | inr last ↦ subst (λ (q : ℕ × Group). IsGathered shape (length shape.group) c.args.wires (length shape.group) q.0 cells q.1)
              (λ p. (sym (last.0 ∙ count) p, last.1 p)) (c.in_ok-group.ensures cells)
        ];
      };
    }
