-- How marks go from part to part, form by form, and how many variables a pattern has.
use Rattle.std.proofs.Common.{◌≡◌, ℕ, zero, suc, ◌<◌, arith, drop, drop-cons, get_or, not, Bool, true, false, ◌||◌, ◌+◌, List, [], ◌∷◌, ◌++◌, map, length, replicate, slice_set, slice_get, Option, Some, None, sum, refl, ap, sym, ◌∙◌, append_assoc}
use Rattle.std.proofs.lemmas.Grind.{common_steps}
use Rattle.std.proofs.lemmas.List.{replicate-append-replicate}
use Rattle.std.proofs.lemmas.List.Sums.{sum_by-cons}
use Rattle.hume_base.specs.declared.boxed.Box.{Box}
use Rattle.hume_base.specs.declared.types.Ty.{Ty}
use Rattle.hume_model.specs.declared.core_tree.Op.{Op}
use Rattle.hume_model.specs.declared.core_tree.PatC.{PatC, roll-PatC, map-PatC, fold-roll-PatC}
use Rattle.hume_model.specs.declared.core_tree.PatC.TheOpen.{PatC-F}
use Rattle.hume_model.specs.declared.core_tree.PatC.TheVariants as pat
use Rattle.typed_core.specs.declared.typed_tree.TypedExpr.{TypedExpr}
use Rattle.typed_core.specs.declared.typed_tree.TypedExpr.TheOpen.{TypedExpr-F}
use Rattle.typed_core.specs.declared.typed_tree.TypedExpr.TheVariants as typed
use Rattle.c_analysis.specs.Needs.{needs_test, variables, variables_step}
use Rattle.c_analysis.specs.Raises.{arms_complete}
use Rattle.c_analysis.specs.Targets.{Target}
use Rattle.c_analysis.specs.inner.Marks.{Looked, Marks, arguments_mark, arm_marks, arm_seen, arms_mark, case_marks, is_last, let_marks, looked, mark_step, marks_of, parts_mark, seen_marks, with_others}
use Rattle.c_analysis.proofs.Forms.{by_form}
use Rattle.c_analysis.proofs.MarkLaws.{complete_marks}

module _ (t : Target) (marks : List Bool) where
  at_marks : {f g : Marks} → f ≡ g → f marks ≡ g marks
  at_marks is = ap (λ (h : Marks). h marks) is

  pub mark_word : (w : ℕ) → marks_of t (typed.Word w) marks ≡ marks
  mark_word w = at_marks (by_form (mark_step t) (TypedExpr-F.Word w) _ (typed.rolls-Word w))

  pub mark_var : (n : ℕ) → marks_of t (typed.Var n) marks ≡ slice_set marks n true
  mark_var n = at_marks (by_form (mark_step t) (TypedExpr-F.Var n) _ (typed.rolls-Var n))

  pub mark_con : (c : ℕ) (es : List TypedExpr) → marks_of t (typed.Con c es) marks ≡ parts_mark (map (seen_marks t) es) marks
  mark_con c es = at_marks (by_form (mark_step t) (TypedExpr-F.Con c es) _ (typed.rolls-Con c es))

  pub mark_tuple : (es : List TypedExpr) → marks_of t (typed.Tuple es) marks ≡ parts_mark (map (seen_marks t) es) marks
  mark_tuple es = at_marks (by_form (mark_step t) (TypedExpr-F.Tuple es) _ (typed.rolls-Tuple es))

  pub mark_vect : (es : List TypedExpr) → marks_of t (typed.Vect es) marks ≡ parts_mark (map (seen_marks t) es) marks
  mark_vect es = at_marks (by_form (mark_step t) (TypedExpr-F.Vect es) _ (typed.rolls-Vect es))

  pub mark_prim : (op : Op) (of : Ty) (es : List TypedExpr) → marks_of t (typed.Prim op of es) marks ≡ parts_mark (map (seen_marks t) es) marks
  mark_prim op of es = at_marks (by_form (mark_step t) (TypedExpr-F.Prim op of es) _ (typed.rolls-Prim op of es))

  pub mark_convert : (from to : Ty) (e : Box TypedExpr) → marks_of t (typed.Convert from to e) marks ≡ marks_of t e marks
  mark_convert from to e = at_marks (by_form (mark_step t) (TypedExpr-F.Convert from to e) _ (typed.rolls-Convert from to e))

  pub mark_index : (of s : Ty) (v k : Box TypedExpr) → marks_of t (typed.Index of s v k) marks ≡ marks_of t k (marks_of t v marks)
  mark_index of s v k = at_marks (by_form (mark_step t) (TypedExpr-F.Index of s v k) _ (typed.rolls-Index of s v k))

  pub mark_update : (of s : Ty) (v k e : Box TypedExpr)
      → marks_of t (typed.Update of s v k e) marks ≡ marks_of t e (marks_of t k (marks_of t v marks))
  mark_update of s v k e = at_marks (by_form (mark_step t) (TypedExpr-F.Update of s v k e) _ (typed.rolls-Update of s v k e))

  pub mark_if_form : (c a b : Box TypedExpr) → marks_of t (typed.If c a b) marks ≡ marks_of t b (marks_of t a (marks_of t c marks))
  mark_if_form c a b = at_marks (by_form (mark_step t) (TypedExpr-F.If c a b) _ (typed.rolls-If c a b))

  pub mark_case : (of : Ty) (e : Box TypedExpr) (arms : List (PatC × TypedExpr)) → marks_of t (typed.Case of e arms) marks
      ≡ case_marks t (seen_marks t e) (arms_mark t of (arms_complete t of arms) (map (arm_seen t) arms) marks)
  mark_case of e arms =
      at_marks (by_form (mark_step t) (TypedExpr-F.Case of e arms) _ (typed.rolls-Case of e arms))
      ∙ ap (λ complete. case_marks t (seen_marks t e) (arms_mark t of complete (map (arm_seen t) arms) marks)) (complete_marks t of arms)

  pub mark_let : (of : Ty) (a b : Box TypedExpr)
      → marks_of t (typed.Let of a b) marks ≡ let_marks t (seen_marks t a) (length marks) (marks_of t b (marks ++ false ∷ []))
  mark_let of a b = at_marks (by_form (mark_step t) (TypedExpr-F.Let of a b) _ (typed.rolls-Let of a b))

  pub mark_call : (f : ℕ) (es : List TypedExpr)
      → marks_of t (typed.Call f es) marks ≡ arguments_mark t (slice_get t.called f) 0 (map (seen_marks t) es) marks
  mark_call f es = at_marks (by_form (mark_step t) (TypedExpr-F.Call f es) _ (typed.rolls-Call f es))

  pub mark_raise : (x : ℕ) → marks_of t (typed.Raise x None) marks ≡ marks
  mark_raise x = at_marks (by_form (mark_step t) (TypedExpr-F.Raise x None) _ (typed.rolls-Raise x None))

  pub mark_raise_with : (x : ℕ) (e : Box TypedExpr) → marks_of t (typed.Raise x (Some e)) marks ≡ marks_of t e marks
  mark_raise_with x e = at_marks (by_form (mark_step t) (TypedExpr-F.Raise x (Some e)) _ (typed.rolls-Raise x (Some e)))

pub ruleset mark_forms = (
  common_steps,
  mark_word,
  mark_var,
  mark_con,
  mark_tuple,
  mark_vect,
  mark_prim,
  mark_convert,
  mark_index,
  mark_update,
  mark_if_form,
  mark_case,
  mark_let,
  mark_call,
  mark_raise,
  mark_raise_with,
)

-- whether an arm is the last
pub last_arm : {A : Type 0} (n : ℕ) (arms : List A) → n ≡ length arms → is_last (drop n arms) ≡ true
last_arm zero [] is = refl
last_arm zero (arm ∷ arms) is = absurd (omega (arith, is))
last_arm (suc n) [] is = absurd (omega (arith, is))
last_arm (suc n) (arm ∷ arms) is = last_arm n arms (omega (arith, is))

pub not_last_arm : {A : Type 0} (n : ℕ) (arms : List A) → n < length arms → is_last (drop n arms) ≡ false
not_last_arm zero [] lt = absurd (omega (arith, lt))
not_last_arm zero (arm ∷ arms) lt = refl
not_last_arm (suc n) [] lt = absurd (omega (arith, lt))
not_last_arm (suc n) (arm ∷ arms) lt = not_last_arm n arms (omega (arith, lt))

pub ruleset arm_steps = (common_steps, last_arm, not_last_arm)

last_map : {A B : Type 0} (f : A → B) (xs : List A) → is_last (map f xs) ≡ is_last xs
last_map f [] = refl
last_map f (x ∷ xs) = refl

drop_next : {A : Type 0} (xs : List A) (i : ℕ) (x : A) → i < length xs → x ≡ get_or xs i x → drop i xs ≡ x ∷ drop (i + 1) xs
drop_next xs i x lt is =
    let one : i + 1 ≡ suc i = omega arith in
    drop-cons xs i x lt ∙ ap (λ y. y ∷ drop (suc i) xs) (sym is) ∙ ap (λ n. x ∷ drop n xs) (sym one)

or_assoc : (a b c : Bool) → ((a || b) || c) ≡ (a || (b || c))
or_assoc true b c = refl
or_assoc false b c = refl

-- the marks and the object behind an arm that has tests
module _ (t : Target) (of : Ty) (complete : Bool) (arms : List (PatC × TypedExpr)) (n : ℕ) (arm : PatC × TypedExpr) (before marks : List Bool) (object goes : Bool) where
  abbrev from : ℕ → List Bool → Looked
  from place = arms_mark t of complete (map (arm_seen t) (drop place arms))

  abbrev first : Looked
  first = arm_marks (length before) (marks_of t arm.1 (before ++ replicate (variables arm.0) false))

  behind_arm : n < length arms → arm ≡ get_or arms n arm → marks ≡ first.marks → object ≡ first.object → needs_test t of arm.0 ≡ true
      → goes ≡ (not (is_last (drop (n + 1) arms)) || not complete)
      → from n before ≡ looked (from (n + 1) marks).marks (object || (goes || (from (n + 1) marks).object))
  behind_arm lt is marks_are object_is tests goes_is =
      ap (λ them. arms_mark t of complete (map (arm_seen t) them) before) (drop_next arms n arm lt is)
      ∙ (λ i. with_others (tests i) (sym goes_on i) (looked (sym marks_are i) (sym object_is i)) (from (n + 1) (sym marks_are i)))
    where
      goes_on : goes ≡ (not (is_last (map (arm_seen t) (drop (n + 1) arms))) || not complete)
      goes_on = goes_is ∙ ap (λ last. not last || not complete) (sym (last_map (arm_seen t) (drop (n + 1) arms)))

  pub arm_marks_next : n < length arms → arm ≡ get_or arms n arm → marks ≡ first.marks → object ≡ first.object → needs_test t of arm.0 ≡ true
      → goes ≡ (not (is_last (drop (n + 1) arms)) || not complete)
      → (from (n + 1) marks).marks ≡ (from n before).marks
  arm_marks_next lt is marks_are object_is tests goes_is = ap (λ (it : Looked). it.marks) (sym (behind_arm lt is marks_are object_is tests goes_is))

  pub arm_object_next : (looked_at : Bool) → n < length arms → arm ≡ get_or arms n arm → marks ≡ first.marks → object ≡ first.object → needs_test t of arm.0 ≡ true
      → goes ≡ (not (is_last (drop (n + 1) arms)) || not complete)
      → ((looked_at || (object || goes)) || (from (n + 1) marks).object) ≡ (looked_at || (from n before).object)
  arm_object_next looked_at lt is marks_are object_is tests goes_is =
      or_assoc looked_at (object || goes) _
      ∙ ap (λ b. looked_at || b) (or_assoc object goes _ ∙ ap (λ (it : Looked). it.object) (sym (behind_arm lt is marks_are object_is tests goes_is)))

-- the marks behind the parts of a form
module _ (t : Target) (marks : List Bool) (e : TypedExpr) where
  pub parts_are : (es xs : List TypedExpr) → marks_of t e marks ≡ parts_mark (map (seen_marks t) es) marks → xs ≡ es
      → parts_mark (map (seen_marks t) xs) marks ≡ marks_of t e marks
  parts_are es xs is same = ap (λ them. parts_mark (map (seen_marks t) them) marks) same ∙ sym is

  pub con_marks : (c : ℕ) (es xs : List TypedExpr) → e ≡ typed.Con c es → xs ≡ es → parts_mark (map (seen_marks t) xs) marks ≡ marks_of t e marks
  con_marks c es xs is = parts_are es xs (ap (λ d. marks_of t d marks) is ∙ mark_con t marks c es)

  pub tuple_marks : (es xs : List TypedExpr) → e ≡ typed.Tuple es → xs ≡ es → parts_mark (map (seen_marks t) xs) marks ≡ marks_of t e marks
  tuple_marks es xs is = parts_are es xs (ap (λ d. marks_of t d marks) is ∙ mark_tuple t marks es)

  pub vect_marks : (es xs : List TypedExpr) → e ≡ typed.Vect es → xs ≡ es → parts_mark (map (seen_marks t) xs) marks ≡ marks_of t e marks
  vect_marks es xs is = parts_are es xs (ap (λ d. marks_of t d marks) is ∙ mark_vect t marks es)

  pub prim_marks : (op : Op) (of : Ty) (es xs : List TypedExpr) → e ≡ typed.Prim op of es → xs ≡ es → parts_mark (map (seen_marks t) xs) marks ≡ marks_of t e marks
  prim_marks op of es xs is = parts_are es xs (ap (λ d. marks_of t d marks) is ∙ mark_prim t marks op of es)

  pub call_marks : (f : ℕ) (es xs : List TypedExpr) → e ≡ typed.Call f es → xs ≡ es
      → arguments_mark t (slice_get t.called f) 0 (map (seen_marks t) xs) marks ≡ marks_of t e marks
  call_marks f es xs is same =
      ap (λ them. arguments_mark t (slice_get t.called f) 0 (map (seen_marks t) them) marks) same
      ∙ sym (mark_call t marks f es) ∙ ap (λ d. marks_of t d marks) (sym is)

  pub let_is : (of : Ty) (a b x y : TypedExpr) → e ≡ typed.Let of a b → x ≡ a → y ≡ b
      → let_marks t (seen_marks t x) (length marks) (marks_of t y (marks ++ false ∷ [])) ≡ marks_of t e marks
  let_is of a b x y is first second =
      (λ i. let_marks t (seen_marks t (first i)) (length marks) (marks_of t (second i) (marks ++ false ∷ [])))
      ∙ sym (mark_let t marks of a b) ∙ ap (λ d. marks_of t d marks) (sym is)

  pub case_is : (of : Ty) (a : TypedExpr) (arms : List (PatC × TypedExpr)) (ty : Ty) (x : TypedExpr) (xs : List (PatC × TypedExpr)) → e ≡ typed.Case of a arms
      → ty ≡ of → x ≡ a → xs ≡ arms
      → case_marks t (seen_marks t x) (arms_mark t ty (arms_complete t ty xs) (map (arm_seen t) xs) marks) ≡ marks_of t e marks
  case_is of a arms ty x xs is first second third =
      (λ i. case_marks t (seen_marks t (second i)) (arms_mark t (first i) (arms_complete t (first i) (third i)) (map (arm_seen t) (third i)) marks))
      ∙ sym (mark_case t marks of a arms) ∙ ap (λ d. marks_of t d marks) (sym is)

variable_form : (x : PatC-F PatC) (p : PatC) → roll-PatC x ≡ p → variables p ≡ variables_step (map-PatC PatC ℕ variables x)
variable_form x p is = ap variables (sym is) ∙ fold-roll-PatC ℕ variables_step x

pub variables_var : variables pat.Var ≡ 1
variables_var = variable_form PatC-F.Var _ pat.rolls-Var

pub variables_any : variables pat.Any ≡ 0
variables_any = variable_form PatC-F.Any _ pat.rolls-Any

pub variables_word : (w : ℕ) → variables (pat.Word w) ≡ 0
variables_word w = variable_form (PatC-F.Word w) _ (pat.rolls-Word w)

pub variables_con : (c : ℕ) (ps : List PatC) → variables (pat.Con c ps) ≡ sum (map variables ps)
variables_con c ps = variable_form (PatC-F.Con c ps) _ (pat.rolls-Con c ps)

pub variables_tuple : (ps : List PatC) → variables (pat.Tuple ps) ≡ sum (map variables ps)
variables_tuple ps = variable_form (PatC-F.Tuple ps) _ (pat.rolls-Tuple ps)

more_marks : (m n : ℕ) (marks : List Bool) → (marks ++ replicate m false) ++ replicate n false ≡ marks ++ replicate (m + n) false
more_marks m n marks = append_assoc marks (replicate m false) (replicate n false) ∙ ap (λ new. marks ++ new) (replicate-append-replicate m n false)

pub more_variables : (marks : List Bool) (p : PatC) (ps : List PatC)
    → (marks ++ replicate (variables p) false) ++ replicate (sum (map variables ps)) false ≡ marks ++ replicate (sum (map variables (p ∷ ps))) false
more_variables marks p ps =
    more_marks (variables p) (sum (map variables ps)) marks
    ∙ ap (λ n. marks ++ replicate n false) (sym (sum_by-cons (λ (n : ℕ). n) (variables p) (map variables ps)))

pub ruleset variable_forms = (common_steps, more_variables, variables_var, variables_any, variables_word, variables_con, variables_tuple)
