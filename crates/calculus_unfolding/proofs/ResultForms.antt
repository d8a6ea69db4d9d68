-- What becomes of a result, form by form.
use Rattle.std.proofs.Common.{◌≡◌, ℕ, ◌+◌, Bool, List, Option, Some, None, map, ap, sym, ◌∙◌}
use Rattle.std.specs.Option.{option_map, option_or}
use Rattle.std.proofs.lemmas.Grind.{common_steps}
use Rattle.hume_model.specs.declared.core_tree.Forms.{Forms}
use Rattle.hume_model.specs.declared.core_tree.PatC.{PatC}
use Rattle.hume_model.specs.declared.core_tree.Expr.{Expr}
use Rattle.hume_model.specs.declared.core_tree.Res.{Res, out-Res, out-roll-Res, roll-Res, map-Res, fold-roll-Res}
use Rattle.hume_model.specs.declared.core_tree.Res.TheOpen.{Res-F}
use Rattle.hume_model.specs.declared.core_tree.Res.TheVariants as res
use Rattle.hume_model.specs.declared.core_tree.Core.{Core}
use Rattle.calculus_laws.specs.Unfolding.{Looked, look_result_step, looked, looked_result, unfold_result_step}
use Rattle.calculus_laws.proofs.UnfoldedResults.{looked_result_tree}
use Rattle.calculus_unfolding.specs.inner.Changes.{arm_changed, expression_changed, first_changed, if_found, part_changed, result_changed, two_changed}
use Rattle.calculus_unfolding.proofs.Changes.{arm_trees, arms_are, map_if_found, map_twice, outs_are, three_mapped, two_mapped}

-- one level of a result of the form in which not all fields are lent
pub case_layer : (e : Expr) (forms : Forms) (arms : List (PatC × Res)) → out-Res (res.Case e forms arms) ≡ Res-F.Case e forms arms
case_layer e forms arms = ap out-Res (sym (res.rolls-Case e forms arms)) ∙ out-roll-Res (Res-F.Case e forms arms)

module _ (core : Core) where
  form : (r : Res) (x : Res-F Res) (scope : ℕ) → roll-Res x ≡ r
      → (looked_result core r).unfolded scope ≡ unfold_result_step (looked core) (map-Res Res (Looked Res) (looked_result core) x) scope
  form r x scope is =
      ap (λ d. (looked_result core d).unfolded scope) (sym is)
      ∙ ap (λ (l : Looked Res). l.unfolded scope) (fold-roll-Res (Looked Res) (look_result_step (looked core)) x)

  pub outs_become : (outs : List (Option Expr)) (scope : ℕ)
      → result_changed core scope (res.Outs outs) ≡ option_map res.Outs (first_changed (part_changed core scope) outs)
  outs_become outs scope = form _ (Res-F.Outs outs) scope (res.rolls-Outs outs) ∙ ap (option_map res.Outs) (outs_are core outs scope)

  pub raise_becomes : (exn : ℕ) (part : Option Expr) (scope : ℕ)
      → result_changed core scope (res.Raise exn part) ≡ option_map (res.Raise exn) (part_changed core scope part)
  raise_becomes exn None scope = form _ (Res-F.Raise exn None) scope (res.rolls-Raise exn None)
  raise_becomes exn (Some e) scope =
      form _ (Res-F.Raise exn (Some e)) scope (res.rolls-Raise exn (Some e)) ∙ sym (map_twice Some (res.Raise exn) (expression_changed core scope e))

  pub case_becomes : (e : Expr) (forms : Forms) (arms : List (PatC × Res)) (scope : ℕ)
      → result_changed core scope (res.Case e forms arms)
      ≡ option_map (λ parts. res.Case parts.0 forms parts.1)
      (two_changed (expression_changed core scope) (first_changed (arm_changed (result_changed core) scope)) (e, arms))
  case_becomes e forms arms scope =
      form _ (Res-F.Case e forms arms) scope (res.rolls-Case e forms arms)
      ∙ (λ i. option_or (option_map (λ d. res.Case d forms (arm_trees (looked_result core) (looked_result_tree core) arms i)) (expression_changed core scope e))
      (option_map (res.Case e forms) (arms_are (looked_result core) (looked_result_tree core) arms scope i)))
      ∙ sym (two_mapped (expression_changed core scope) (first_changed (arm_changed (result_changed core) scope))
      (λ parts. res.Case parts.0 forms parts.1) e arms)

  pub let_becomes : (e : Expr) (body : Res) (scope : ℕ)
      → result_changed core scope (res.Let e body)
      ≡ option_map (λ parts. res.Let parts.0 parts.1) (two_changed (expression_changed core scope) (result_changed core (scope + 1)) (e, body))
  let_becomes e body scope =
      form _ (Res-F.Let e body) scope (res.rolls-Let e body)
      ∙ ap (λ r. option_or (option_map (λ d. res.Let d r) (expression_changed core scope e))
      (option_map (res.Let e) (result_changed core (scope + 1) body))) (looked_result_tree core body)
      ∙ sym (two_mapped (expression_changed core scope) (result_changed core (scope + 1)) (λ parts. res.Let parts.0 parts.1) e body)

  pub if_becomes : (t : Expr) (a b : Res) (scope : ℕ)
      → result_changed core scope (res.If t a b)
      ≡ option_map (λ parts. res.If parts.0 parts.1.0 parts.1.1)
      (two_changed (expression_changed core scope) (two_changed (result_changed core scope) (result_changed core scope)) (t, (a, b)))
  if_becomes t a b scope =
      form _ (Res-F.If t a b) scope (res.rolls-If t a b)
      ∙ (λ i. option_or (option_map (λ d. res.If d (looked_result_tree core a i) (looked_result_tree core b i)) (expression_changed core scope t))
      (option_or (option_map (λ r. res.If t r (looked_result_tree core b i)) (result_changed core scope a))
      (option_map (res.If t (looked_result_tree core a i)) (result_changed core scope b))))
      ∙ sym (three_mapped (expression_changed core scope) (result_changed core scope) (result_changed core scope)
      (λ parts. res.If parts.0 parts.1.0 parts.1.1) t a b)

  -- so the result becomes what its parts do
  pub case_found : (e d : Expr) (forms : Forms) (arms new : List (PatC × Res)) (scope : ℕ) (found : Bool)
      → two_changed (expression_changed core scope) (first_changed (arm_changed (result_changed core) scope)) (e, arms) ≡ if_found found (d, new)
      → result_changed core scope (res.Case e forms arms) ≡ if_found found (res.Case d forms new)
  case_found e d forms arms new scope found is =
      case_becomes e forms arms scope ∙ ap (option_map (λ parts. res.Case parts.0 forms parts.1)) is
      ∙ map_if_found (λ parts. res.Case parts.0 forms parts.1) found (d, new)

  pub let_found : (e d : Expr) (body new : Res) (scope : ℕ) (found : Bool)
      → two_changed (expression_changed core scope) (result_changed core (scope + 1)) (e, body) ≡ if_found found (d, new)
      → result_changed core scope (res.Let e body) ≡ if_found found (res.Let d new)
  let_found e d body new scope found is =
      let_becomes e body scope ∙ ap (option_map (λ parts. res.Let parts.0 parts.1)) is ∙ map_if_found (λ parts. res.Let parts.0 parts.1) found (d, new)

  pub choice_found : (t u : Expr) (a b d e : Res) (scope : ℕ) (found : Bool)
      → two_changed (expression_changed core scope) (two_changed (result_changed core scope) (result_changed core scope)) (t, (a, b))
      ≡ if_found found (u, (d, e))
      → result_changed core scope (res.If t a b) ≡ if_found found (res.If u d e)
  choice_found t u a b d e scope found is =
      if_becomes t a b scope ∙ ap (option_map (λ parts. res.If parts.0 parts.1.0 parts.1.1)) is
      ∙ map_if_found (λ parts. res.If parts.0 parts.1.0 parts.1.1) found (u, (d, e))

pub ruleset form_steps = (common_steps, map_if_found, outs_become, raise_becomes, case_found, let_found, choice_found)
