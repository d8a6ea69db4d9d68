use Rattle.std.proofs.Common.{rules, sym, ap, ◌∙◌, map, Some}
use mathlib.Core.Option.{some, some-injective}
use lib.ListN.{get_elem?}
use Rattle.turn_locker.proofs.Values.{one_more, filled_less, emptied_more}
use Rattle.turn_locker.proofs.closing.take_all.Goals as goal

pub unreachable-requires : goal.unreachable-requires
unreachable-requires g c = let inv = c.loop-item.invariant in let k = c.requires.values c.loop-item.item c.loop-item-test.true in
    let is = sym k.1 ∙ (sym (ap (λ s. get_elem? s c.loop-item.item) inv.same) ∙ c.take.ensures.value) in
    c.in_default.not-Some k.0 (sym (some-injective _ _ is))

pub loop-item-preserved : goal.loop-item-preserved
loop-item-preserved g c = let inv = c.loop-item.invariant in let others = c.take.ensures.others in record {
  same = others.0 ∙ inv.same;
  count = others.2 ∙ inv.count;
  full = search rules;
  left = filled_less _ _ _ _ _ others.1 others.2 inv.left;
  gone = emptied_more _ _ _ others.1 inv.gone;
  taken = ap (map Some) c.push_reserved.ensures.items ∙ one_more _ _ c.loop-item.item c.in-Some.value inv.taken
      (sym (ap (λ s. get_elem? s c.loop-item.item) inv.same) ∙ (c.take.ensures.value ∙ ap some c.in-Some.is));
  long = search rules;
}
