-- What expressions take, form by form.
use Rattle.std.proofs.Common.{◌≡◌, ℕ, ap, sym, ◌∙◌, subst}
use Rattle.hume_model.specs.declared.core_tree.Expr.{Expr, roll-Expr, map-Expr, fold-roll-Expr}
use Rattle.hume_model.specs.declared.core_tree.Expr.TheOpen.{Expr-F}
use Rattle.box_costs.specs.declared.cost.Cost.{Cost}
use Rattle.box_costs.specs.Bounds.{bound_step, bound_with}
use Rattle.space_costs.specs.inner.Standing.{IsCostOf}

module _ (bounds : ℕ → Cost) where
  pub bound_form : (e : Expr) (x : Expr-F Expr) → roll-Expr x ≡ e → bound_with bounds e ≡ bound_step bounds (map-Expr Expr Cost (bound_with bounds) x)
  bound_form e x is = ap (bound_with bounds) (sym is) ∙ fold-roll-Expr Cost (bound_step bounds) x

  -- counted by its form
  pub by_form : (r : Cost) (e : Expr) (x : Expr-F Expr) → roll-Expr x ≡ e → IsCostOf r (bound_step bounds (map-Expr Expr Cost (bound_with bounds) x)) → IsCostOf r (bound_with bounds e)
  by_form r e x is p = subst (λ c. IsCostOf r c) (sym (bound_form e x is)) p

  pub of_same : (r : Cost) (e other : Expr) → e ≡ other → IsCostOf r (bound_with bounds e) → IsCostOf r (bound_with bounds other)
  of_same r e other same p = subst (λ x. IsCostOf r (bound_with bounds x)) same p
