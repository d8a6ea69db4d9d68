-- What results take, form by form.
use Rattle.std.proofs.Common.{◌≡◌, ap, sym, ◌∙◌, subst}
use Rattle.hume_model.specs.declared.core_tree.Res.{Res, roll-Res, map-Res, fold-roll-Res}
use Rattle.hume_model.specs.declared.core_tree.Res.TheOpen.{Res-F}
use Rattle.hume_model.specs.declared.core_tree.Core.{Core}
use Rattle.box_costs.specs.declared.cost.Cost.{Cost}
use Rattle.box_costs.specs.Bounds.{expression_bound, result_bound_step, result_bound}
use Rattle.space_costs.specs.inner.Standing.{IsCostOf}

module _ (core : Core) where
  -- counted by its form
  pub by_form : (r : Cost) (res : Res) (x : Res-F Res) → roll-Res x ≡ res → IsCostOf r (result_bound_step (expression_bound core) (map-Res Res Cost (result_bound core) x))
      → IsCostOf r (result_bound core res)
  by_form r res x is p =
      subst (λ c. IsCostOf r c) (sym (ap (result_bound core) (sym is) ∙ fold-roll-Res Cost (result_bound_step (expression_bound core)) x)) p

  pub of_same : (r : Cost) (res other : Res) → res ≡ other → IsCostOf r (result_bound core res) → IsCostOf r (result_bound core other)
  of_same r res other same p = subst (λ x. IsCostOf r (result_bound core x)) same p
