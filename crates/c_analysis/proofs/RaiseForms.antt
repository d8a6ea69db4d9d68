-- Which expressions may raise, form by form.
use Rattle.std.proofs.Common.{◌≡◌, ℕ, Bool, true, false, not, ◌||◌, List, map, Option, Some, None, slice_get, refl, ap, sym, ◌∙◌}
use Rattle.std.proofs.lemmas.Grind.{common_steps}
use Rattle.hume_base.specs.declared.boxed.Box.{Box}
use Rattle.hume_base.specs.declared.types.Ty.{Ty}
use Rattle.hume_model.specs.declared.core_tree.Op.{Op}
use Rattle.hume_model.specs.declared.core_tree.PatC.{PatC}
use Rattle.hume_model.specs.Completeness.{are_complete}
use Rattle.hume_model.specs.Forms.{forms_of}
use Rattle.typed_core.specs.declared.typed_tree.TypedExpr.{TypedExpr}
use Rattle.typed_core.specs.declared.typed_tree.TypedExpr.TheOpen.{TypedExpr-F}
use Rattle.typed_core.specs.declared.typed_tree.TypedExpr.TheVariants as typed
use Rattle.c_analysis.specs.Raises.{arms_complete, is_inside, is_zero_free, may_raise, raise_step, raises_as, some_arms_raise, some_raise}
use Rattle.c_analysis.specs.Seen.{seen}
use Rattle.c_analysis.specs.Targets.{Target}
use Rattle.c_analysis.proofs.Forms.{by_form, trees_seen, patterns_seen}

pub raise_word : (t : Target) (w : ℕ) → may_raise t (typed.Word w) ≡ false
raise_word t w = by_form (raise_step t) (TypedExpr-F.Word w) _ (typed.rolls-Word w)

pub raise_var : (t : Target) (n : ℕ) → may_raise t (typed.Var n) ≡ false
raise_var t n = by_form (raise_step t) (TypedExpr-F.Var n) _ (typed.rolls-Var n)

pub raise_con : (t : Target) (c : ℕ) (es : List TypedExpr) → may_raise t (typed.Con c es) ≡ some_raise (map (seen (raise_step t)) es)
raise_con t c es = by_form (raise_step t) (TypedExpr-F.Con c es) _ (typed.rolls-Con c es)

pub raise_tuple : (t : Target) (es : List TypedExpr) → may_raise t (typed.Tuple es) ≡ some_raise (map (seen (raise_step t)) es)
raise_tuple t es = by_form (raise_step t) (TypedExpr-F.Tuple es) _ (typed.rolls-Tuple es)

pub raise_vect : (t : Target) (es : List TypedExpr) → may_raise t (typed.Vect es) ≡ some_raise (map (seen (raise_step t)) es)
raise_vect t es = by_form (raise_step t) (TypedExpr-F.Vect es) _ (typed.rolls-Vect es)

pub raise_prim : (t : Target) (op : Op) (of : Ty) (es : List TypedExpr)
    → may_raise t (typed.Prim op of es) ≡ (not (is_zero_free op es) || some_raise (map (seen (raise_step t)) es))
raise_prim t op of es =
    by_form (raise_step t) (TypedExpr-F.Prim op of es) _ (typed.rolls-Prim op of es)
    ∙ ap (λ trees. not (is_zero_free op trees) || some_raise (map (seen (raise_step t)) es)) (trees_seen (raise_step t) es)

pub raise_convert : (t : Target) (from to : Ty) (e : Box TypedExpr) → may_raise t (typed.Convert from to e) ≡ may_raise t e
raise_convert t from to e = by_form (raise_step t) (TypedExpr-F.Convert from to e) _ (typed.rolls-Convert from to e)

pub raise_index : (t : Target) (of s : Ty) (v k : Box TypedExpr)
    → may_raise t (typed.Index of s v k) ≡ (not (is_inside of k) || may_raise t v || may_raise t k)
raise_index t of s v k = by_form (raise_step t) (TypedExpr-F.Index of s v k) _ (typed.rolls-Index of s v k)

pub raise_update : (t : Target) (of s : Ty) (v k e : Box TypedExpr)
    → may_raise t (typed.Update of s v k e) ≡ (not (is_inside of k) || may_raise t v || may_raise t k || may_raise t e)
raise_update t of s v k e = by_form (raise_step t) (TypedExpr-F.Update of s v k e) _ (typed.rolls-Update of s v k e)

pub raise_if : (t : Target) (c a b : Box TypedExpr) → may_raise t (typed.If c a b) ≡ (may_raise t c || may_raise t a || may_raise t b)
raise_if t c a b = by_form (raise_step t) (TypedExpr-F.If c a b) _ (typed.rolls-If c a b)

pub raise_case : (t : Target) (of : Ty) (e : Box TypedExpr) (arms : List (PatC × TypedExpr)) → may_raise t (typed.Case of e arms)
    ≡ (not (arms_complete t of arms) || may_raise t e || some_arms_raise (map (λ (arm : PatC × TypedExpr). (arm.0, seen (raise_step t) arm.1)) arms))
raise_case t of e arms =
    by_form (raise_step t) (TypedExpr-F.Case of e arms) _ (typed.rolls-Case of e arms)
    ∙ ap (λ patterns. not (are_complete t.file.types (forms_of of) patterns) || may_raise t e
    || some_arms_raise (map (λ (arm : PatC × TypedExpr). (arm.0, seen (raise_step t) arm.1)) arms)) (patterns_seen (raise_step t) arms)

pub raise_let : (t : Target) (of : Ty) (a b : Box TypedExpr) → may_raise t (typed.Let of a b) ≡ (may_raise t a || may_raise t b)
raise_let t of a b = by_form (raise_step t) (TypedExpr-F.Let of a b) _ (typed.rolls-Let of a b)

pub raise_call : (t : Target) (f : ℕ) (es : List TypedExpr)
    → may_raise t (typed.Call f es) ≡ (raises_as (slice_get t.called f) || some_raise (map (seen (raise_step t)) es))
raise_call t f es = by_form (raise_step t) (TypedExpr-F.Call f es) _ (typed.rolls-Call f es)

pub raise_raise : (t : Target) (x : ℕ) (e : Option (Box TypedExpr)) → may_raise t (typed.Raise x e) ≡ true
raise_raise t x e = by_form (raise_step t) (TypedExpr-F.Raise x e) _ (typed.rolls-Raise x e)

-- what is found out about the parts of a form
module _ (t : Target) (e : TypedExpr) where
  some_of : (es xs : List TypedExpr) → may_raise t e ≡ some_raise (map (seen (raise_step t)) es) → xs ≡ es → some_raise (map (seen (raise_step t)) xs) ≡ may_raise t e
  some_of es xs is same = ap (λ them. some_raise (map (seen (raise_step t)) them)) same ∙ sym is

  pub con_raises : (c : ℕ) (es xs : List TypedExpr) → e ≡ typed.Con c es → xs ≡ es → some_raise (map (seen (raise_step t)) xs) ≡ may_raise t e
  con_raises c es xs is = some_of es xs (ap (may_raise t) is ∙ raise_con t c es)

  pub tuple_raises : (es xs : List TypedExpr) → e ≡ typed.Tuple es → xs ≡ es → some_raise (map (seen (raise_step t)) xs) ≡ may_raise t e
  tuple_raises es xs is = some_of es xs (ap (may_raise t) is ∙ raise_tuple t es)

  pub vect_raises : (es xs : List TypedExpr) → e ≡ typed.Vect es → xs ≡ es → some_raise (map (seen (raise_step t)) xs) ≡ may_raise t e
  vect_raises es xs is = some_of es xs (ap (may_raise t) is ∙ raise_vect t es)

  pub prim_raises : (op : Op) (of : Ty) (es xs : List TypedExpr) → e ≡ typed.Prim op of es → xs ≡ es
      → (not (is_zero_free op xs) || some_raise (map (seen (raise_step t)) xs)) ≡ may_raise t e
  prim_raises op of es xs is same =
      ap (λ them. not (is_zero_free op them) || some_raise (map (seen (raise_step t)) them)) same ∙ sym (raise_prim t op of es) ∙ ap (may_raise t) (sym is)

  pub call_raises : (f : ℕ) (es xs : List TypedExpr) → e ≡ typed.Call f es → xs ≡ es
      → (raises_as (slice_get t.called f) || some_raise (map (seen (raise_step t)) xs)) ≡ may_raise t e
  call_raises f es xs is same =
      ap (λ them. raises_as (slice_get t.called f) || some_raise (map (seen (raise_step t)) them)) same ∙ sym (raise_call t f es) ∙ ap (may_raise t) (sym is)

  pub case_raises : (of : Ty) (a : TypedExpr) (arms : List (PatC × TypedExpr)) (ty : Ty) (x : TypedExpr) (xs : List (PatC × TypedExpr)) → e ≡ typed.Case of a arms
      → ty ≡ of → x ≡ a → xs ≡ arms
      → (not (arms_complete t ty xs) || may_raise t x || some_arms_raise (map (λ (arm : PatC × TypedExpr). (arm.0, seen (raise_step t) arm.1)) xs)) ≡ may_raise t e
  case_raises of a arms ty x xs is first second third =
      (λ i. not (arms_complete t (first i) (third i)) || may_raise t (second i)
      || some_arms_raise (map (λ (arm : PatC × TypedExpr). (arm.0, seen (raise_step t) arm.1)) (third i)))
      ∙ sym (raise_case t of a arms) ∙ ap (may_raise t) (sym is)

pub ruleset raise_forms = (
  common_steps,
  raise_word,
  raise_var,
  raise_con,
  raise_tuple,
  raise_vect,
  raise_prim,
  raise_convert,
  raise_index,
  raise_update,
  raise_if,
  raise_case,
  raise_let,
  raise_call,
  raise_raise,
)
