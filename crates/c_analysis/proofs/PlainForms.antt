-- Which expressions are expressions of C, form by form.
use Rattle.std.proofs.Common.{◌≡◌, ℕ, Bool, true, false, not, ◌&&◌, ◌||◌, List, map, Option, Some, None, slice_get, refl, ap, sym, ◌∙◌}
use Rattle.std.proofs.lemmas.Grind.{common_steps}
use Rattle.hume_base.specs.declared.boxed.Box.{Box}
use Rattle.hume_base.specs.declared.types.Ty.{Ty}
use Rattle.hume_base.specs.declared.types.Ty.TheVariants as shape
use Rattle.hume_model.specs.declared.core_tree.Op.{Op}
use Rattle.hume_model.specs.declared.core_tree.PatC.{PatC}
use Rattle.typed_core.specs.declared.typed_tree.TypedExpr.{TypedExpr}
use Rattle.typed_core.specs.declared.typed_tree.TypedExpr.TheOpen.{TypedExpr-F}
use Rattle.typed_core.specs.declared.typed_tree.TypedExpr.TheVariants as typed
use Rattle.c_analysis.specs.Raises.{is_inside, is_zero_free}
use Rattle.c_analysis.specs.Plain.{all_plain, call_plain, is_plain, plain_step}
use Rattle.c_analysis.specs.Seen.{seen}
use Rattle.c_analysis.specs.Targets.{Target, callee_of, is_number}
use Rattle.c_analysis.proofs.Forms.{by_form, trees_seen}

module _ (t : Target) (ty : Ty) where
  at_type : {f g : Ty → Bool} → f ≡ g → f ty ≡ g ty
  at_type is = ap (λ (h : Ty → Bool). h ty) is

  pub plain_word : (w : ℕ) → is_plain t ty (typed.Word w) ≡ true
  plain_word w = at_type (by_form (plain_step t) (TypedExpr-F.Word w) _ (typed.rolls-Word w))

  pub plain_var : (n : ℕ) → is_plain t ty (typed.Var n) ≡ true
  plain_var n = at_type (by_form (plain_step t) (TypedExpr-F.Var n) _ (typed.rolls-Var n))

  pub plain_con : (c : ℕ) (es : List TypedExpr) → is_plain t ty (typed.Con c es) ≡ is_number t ty
  plain_con c es = at_type (by_form (plain_step t) (TypedExpr-F.Con c es) _ (typed.rolls-Con c es))

  pub plain_tuple : (es : List TypedExpr) → is_plain t ty (typed.Tuple es) ≡ false
  plain_tuple es = at_type (by_form (plain_step t) (TypedExpr-F.Tuple es) _ (typed.rolls-Tuple es))

  pub plain_vect : (es : List TypedExpr) → is_plain t ty (typed.Vect es) ≡ false
  plain_vect es = at_type (by_form (plain_step t) (TypedExpr-F.Vect es) _ (typed.rolls-Vect es))

  pub plain_prim : (op : Op) (of : Ty) (es : List TypedExpr)
      → is_plain t ty (typed.Prim op of es) ≡ (is_zero_free op es && all_plain of (map (seen (plain_step t)) es))
  plain_prim op of es =
      at_type (by_form (plain_step t) (TypedExpr-F.Prim op of es) _ (typed.rolls-Prim op of es))
      ∙ ap (λ trees. is_zero_free op trees && all_plain of (map (seen (plain_step t)) es)) (trees_seen (plain_step t) es)

  pub plain_convert : (from to : Ty) (e : Box TypedExpr) → is_plain t ty (typed.Convert from to e) ≡ is_plain t from e
  plain_convert from to e = at_type (by_form (plain_step t) (TypedExpr-F.Convert from to e) _ (typed.rolls-Convert from to e))

  pub plain_index : (of s : Ty) (v k : Box TypedExpr) → is_plain t ty (typed.Index of s v k) ≡ (is_inside of k && is_plain t of v)
  plain_index of s v k = at_type (by_form (plain_step t) (TypedExpr-F.Index of s v k) _ (typed.rolls-Index of s v k))

  pub plain_update : (of s : Ty) (v k e : Box TypedExpr) → is_plain t ty (typed.Update of s v k e) ≡ false
  plain_update of s v k e = at_type (by_form (plain_step t) (TypedExpr-F.Update of s v k e) _ (typed.rolls-Update of s v k e))

  pub plain_if : (c a b : Box TypedExpr)
      → is_plain t ty (typed.If c a b) ≡ (is_number t ty && is_plain t shape.Bool c && is_plain t ty a && is_plain t ty b)
  plain_if c a b = at_type (by_form (plain_step t) (TypedExpr-F.If c a b) _ (typed.rolls-If c a b))

  pub plain_case : (of : Ty) (e : Box TypedExpr) (arms : List (PatC × TypedExpr)) → is_plain t ty (typed.Case of e arms) ≡ false
  plain_case of e arms = at_type (by_form (plain_step t) (TypedExpr-F.Case of e arms) _ (typed.rolls-Case of e arms))

  pub plain_let : (of : Ty) (a b : Box TypedExpr) → is_plain t ty (typed.Let of a b) ≡ false
  plain_let of a b = at_type (by_form (plain_step t) (TypedExpr-F.Let of a b) _ (typed.rolls-Let of a b))

  pub plain_call : (f : ℕ) (es : List TypedExpr) → is_plain t ty (typed.Call f es) ≡ call_plain t (callee_of t f) (map (seen (plain_step t)) es)
  plain_call f es = at_type (by_form (plain_step t) (TypedExpr-F.Call f es) _ (typed.rolls-Call f es))

  pub plain_raise : (x : ℕ) (e : Option (Box TypedExpr)) → is_plain t ty (typed.Raise x e) ≡ false
  plain_raise x e = at_type (by_form (plain_step t) (TypedExpr-F.Raise x e) _ (typed.rolls-Raise x e))

-- what is found out about the parts of a form
module _ (t : Target) (ty : Ty) (e : TypedExpr) where
  pub prim_plain : (op : Op) (of : Ty) (es : List TypedExpr) (other : Ty) (xs : List TypedExpr) → e ≡ typed.Prim op of es → other ≡ of → xs ≡ es
      → (is_zero_free op xs && all_plain other (map (seen (plain_step t)) xs)) ≡ is_plain t ty e
  prim_plain op of es other xs is first second =
      (λ i. is_zero_free op (second i) && all_plain (first i) (map (seen (plain_step t)) (second i))) ∙ sym (plain_prim t ty op of es) ∙ ap (is_plain t ty) (sym is)

  pub call_is : (f : ℕ) (es xs : List TypedExpr) → e ≡ typed.Call f es → xs ≡ es → call_plain t (callee_of t f) (map (seen (plain_step t)) xs) ≡ is_plain t ty e
  call_is f es xs is same =
      ap (λ them. call_plain t (callee_of t f) (map (seen (plain_step t)) them)) same ∙ sym (plain_call t ty f es) ∙ ap (is_plain t ty) (sym is)

pub ruleset plain_forms = (
  common_steps,
  plain_word,
  plain_var,
  plain_con,
  plain_tuple,
  plain_vect,
  plain_prim,
  plain_convert,
  plain_index,
  plain_update,
  plain_if,
  plain_case,
  plain_let,
  plain_call,
  plain_raise,
)
