use Rattle.std.proofs.Common.{◌≡◌, ◌∙◌, if◌then◌else◌, Bool, true, false, refl, sym, subst}
use Rattle.hume_model.specs.declared.core_tree.HandC.{HandC}
use Rattle.box_costs.specs.Costs.{nothing}
use Rattle.box_costs.specs.Bounds.{handler_bound, handler_variables}
use Rattle.space_costs.specs.inner.Standing.{IsCostOf, counted}
use Rattle.space_costs.proofs.boxes.handler_cost.Goals as goal

few : (b : Bool) → (if b then 1 else 0) ≡ counted (if b then 1 else 0)
few true = refl
few false = refl

pub returns-then-has : goal.returns-then-has
returns-then-has c =
    let core = c.args.core.now in
    let handler : HandC = c.args.handler.now in
    subst (λ (b : Bool). IsCostOf c.above.result (if b then handler_bound core handler else nothing)) (sym (sym c.has.ensures ∙ c.if-has.true))
    (c.above.ensures 1 _ refl (c.with_variables.ensures (handler_variables handler) 0 _ (c.variables.ensures ∙ few handler.bound) refl c.result_cost-result.ensures))
