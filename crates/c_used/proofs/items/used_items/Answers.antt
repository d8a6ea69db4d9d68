use Rattle.std.proofs.Common.{reverse, ap, sym, ◌∙◌}
use Rattle.c_used.specs.inner.Kept.{kept_before}
use Rattle.c_used.proofs.KeptForms.{all_before, last_first}
use Rattle.c_used.proofs.items.used_items.Goals as goal

pub loop-item-init : goal.loop-item-init
loop-item-init c = ap (λ items. kept_before c.into_vec-items.result.items (reverse items)) c.new-behind.ensures ∙ all_before c.into_vec-items.result.items

pub loop-item-preserved : goal.loop-item-preserved
loop-item-preserved c = ap (kept_before c.pop.new.self.items) c.in_ok-behind.ensures
    ∙ sym (last_first c.pop.new.self.items c.in-Some.item (reverse c.loop-item.behind.items.items))
    ∙ ap (λ items. kept_before items (reverse c.loop-item.behind.items.items)) (sym c.in-Some.ensures.items) ∙ c.loop-item.invariant
