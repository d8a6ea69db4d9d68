-- What results may raise, form by form.
use Rattle.std.proofs.Common.{◌≡◌, ℕ, ◌==◌, ◌&&◌, ◌||◌, not, Bool, List, [], ◌∷◌, map, Option, Some, refl, ap, sym, ◌∙◌}
use Rattle.std.proofs.lemmas.Grind.{common_steps}
use Rattle.std.specs.List.{list_any, filter_map}
use Rattle.hume_model.specs.declared.core_tree.Forms.{Forms}
use Rattle.hume_model.specs.declared.core_tree.PatC.{PatC}
use Rattle.hume_model.specs.declared.core_tree.Expr.{Expr}
use Rattle.hume_model.specs.declared.core_tree.Res.{Res, roll-Res, map-Res, fold-roll-Res}
use Rattle.hume_model.specs.declared.core_tree.Res.TheOpen.{Res-F}
use Rattle.hume_model.specs.declared.core_tree.Res.TheVariants as res
use Rattle.hume_model.specs.declared.core_tree.Core.{Core}
use Rattle.hume_model.specs.declared.exceptions.TheConstants.{NO_CASE}
use Rattle.hume_model.specs.Completeness.{are_complete}
use Rattle.hume_model.specs.Raising.{may_raise, raises_if_there, result_raises_step, result_may_raise}

module _ (core : Core) (exn : ℕ) where
  abbrev pub raises : Res → Bool
  raises = result_may_raise core exn

  result_form : (r : Res) (x : Res-F Res) → roll-Res x ≡ r → raises r ≡ result_raises_step core.types (may_raise core exn) exn (map-Res Res Bool raises x)
  result_form r x is = ap raises (sym is) ∙ fold-roll-Res Bool (result_raises_step core.types (may_raise core exn) exn) x

  abbrev arm_raises : PatC × Res → PatC × Bool
  arm_raises arm = (arm.0, raises arm.1)

  pub some_arms : (arms : List (PatC × Res)) → list_any (λ (arm : PatC × Bool). arm.1) (map arm_raises arms) ≡ list_any (λ (arm : PatC × Res). raises arm.1) arms
  some_arms [] = refl
  some_arms (arm ∷ arms) = ap (λ b. raises arm.1 || b) (some_arms arms)

  arm_patterns : (arms : List (PatC × Res)) → map (λ (arm : PatC × Bool). arm.0) (map arm_raises arms) ≡ filter_map (λ (arm : PatC × Res). Some arm.0) arms
  arm_patterns [] = refl
  arm_patterns (arm ∷ arms) = ap (λ ps. arm.0 ∷ ps) (arm_patterns arms)

  pub raises-outs : (outs : List (Option Expr)) → raises (res.Outs outs) ≡ list_any (raises_if_there (may_raise core exn)) outs
  raises-outs outs = result_form _ (Res-F.Outs outs) (res.rolls-Outs outs)

  pub raises-choice : (e : Expr) (a b : Res) → raises (res.If e a b) ≡ (may_raise core exn e || (raises a || raises b))
  raises-choice e a b = result_form _ (Res-F.If e a b) (res.rolls-If e a b)

  pub raises-arms : (e : Expr) (forms : Forms) (arms : List (PatC × Res)) → raises (res.Case e forms arms)
      ≡ (may_raise core exn e
      || (list_any (λ (arm : PatC × Res). raises arm.1) arms || ((exn == NO_CASE) && not (are_complete core.types forms (filter_map (λ (arm : PatC × Res). Some arm.0) arms)))))
  raises-arms e forms arms = result_form _ (Res-F.Case e forms arms) (res.rolls-Case e forms arms) ∙ rw (some_arms arms, arm_patterns arms) refl

  pub raises-binding : (e : Expr) (r : Res) → raises (res.Let e r) ≡ (may_raise core exn e || raises r)
  raises-binding e r = result_form _ (Res-F.Let e r) (res.rolls-Let e r)

  pub raises-raise : (x : ℕ) (e : Option Expr) → raises (res.Raise x e) ≡ (raises_if_there (may_raise core exn) e || (x == exn))
  raises-raise x e = result_form _ (Res-F.Raise x e) (res.rolls-Raise x e)

pub ruleset result_forms = (common_steps, raises-outs, raises-choice, raises-arms, raises-binding, raises-raise)
