-- What patterns ask of objects, form by form.
use Rattle.std.proofs.Common.{◌≡◌, ℕ, Bool, true, false, List, [], ◌∷◌, map, refl, ap, sym, ◌∙◌}
use Rattle.std.proofs.lemmas.Grind.{common_steps}
use Rattle.hume_base.specs.declared.types.Ty.{Ty, out-Ty, out-roll-Ty}
use Rattle.hume_base.specs.declared.types.Ty.TheOpen.{Ty-F}
use Rattle.hume_base.specs.declared.types.Ty.TheVariants as shape
use Rattle.hume_model.specs.declared.core_tree.PatC.{PatC, roll-PatC, map-PatC, fold-roll-PatC}
use Rattle.hume_model.specs.declared.core_tree.PatC.TheOpen.{PatC-F}
use Rattle.hume_model.specs.declared.core_tree.PatC.TheVariants as pat
use Rattle.c_types.specs.Shapes.{form_of}
use Rattle.c_analysis.specs.Needs.{con_needs, needed, needs_step, needs_test, some_field, tuple_needs}
use Rattle.c_analysis.specs.Targets.{Target}

module _ (t : Target) (ty : Ty) where
  form : (x : PatC-F PatC) (p : PatC) → roll-PatC x ≡ p → needs_test t ty p ≡ needs_step t (map-PatC PatC (Ty → Bool) (needed t) x) ty
  form x p is = ap (needs_test t ty) (sym is) ∙ ap (λ (f : Ty → Bool). f ty) (fold-roll-PatC (Ty → Bool) (needs_step t) x)

  pub needs_var : needs_test t ty pat.Var ≡ false
  needs_var = form PatC-F.Var _ pat.rolls-Var

  pub needs_any : needs_test t ty pat.Any ≡ false
  needs_any = form PatC-F.Any _ pat.rolls-Any

  pub needs_word : (w : ℕ) → needs_test t ty (pat.Word w) ≡ true
  needs_word w = form (PatC-F.Word w) _ (pat.rolls-Word w)

  pub needs_con : (c : ℕ) (ps : List PatC) → needs_test t ty (pat.Con c ps) ≡ con_needs (form_of t.file.types ty) (map (needed t) ps)
  needs_con c ps = form (PatC-F.Con c ps) _ (pat.rolls-Con c ps)

  pub needs_tuple : (ps : List PatC) → needs_test t ty (pat.Tuple ps) ≡ tuple_needs (out-Ty ty) (map (needed t) ps)
  needs_tuple ps = form (PatC-F.Tuple ps) _ (pat.rolls-Tuple ps)

pub no_part : (tys : List Ty) → some_field tys [] ≡ false
no_part [] = refl
no_part (ty ∷ tys) = refl

pub ruleset need_forms = (common_steps, no_part, needs_var, needs_any, needs_word, needs_con, needs_tuple)
