-- How an expression is written, by its form.
use Rattle.std.proofs.Common.{◌≡◌, ℕ, zero, suc, ◌<◌, ◌+◌, Bool, true, false, ◌||◌, ◌&&◌, List, [], ◌∷◌, ◌++◌, map, drop, get_or, length, slice_get, Option, Some, Result, Ok, Err, OnOk, refl, ap, sym, ◌∙◌, arith, if◌then◌else◌}
use Rattle.std.proofs.lemmas.Bool.{false≢true}
use Rattle.std.proofs.lemmas.Grind.{common_steps}
use Rattle.hume_base.specs.declared.types.Ty.{Ty, out-Ty}
use Rattle.hume_model.specs.declared.core_tree.Op.{Op}
use Rattle.hume_model.specs.declared.core_tree.PatC.{PatC}
use Rattle.typed_core.specs.declared.typed_tree.TypedExpr.{TypedExpr, map-TypedExpr, out-TypedExpr, roll-out-TypedExpr}
use Rattle.typed_core.specs.declared.typed_tree.TypedExpr.TheOpen.{TypedExpr-F}
use Rattle.typed_core.specs.declared.typed_tree.TypedExpr.TheVariants as typed
use Rattle.c_tree.specs.declared.tree.CExp.{CExp}
use Rattle.c_types.specs.Shapes.{form_of}
use Rattle.hume_model.specs.Completeness.{are_complete}
use Rattle.hume_model.specs.Forms.{forms_of}
use Rattle.c_analysis.specs.Plain.{is_division, uses_argument}
use Rattle.c_analysis.specs.Raises.{arms_complete}
use Rattle.c_analysis.specs.Seen.{Seen, seen}
use Rattle.c_analysis.specs.Uses.{Uses, looked_at, uses_step}
use Rattle.c_analysis.specs.Targets.{Target, Known, callee_of, con_of}
use Rattle.c_analysis.proofs.Forms.{by_form, out_forms, whole_is, out-call, out-case, out-con, out-let, out-prim, out-tuple, out-vect, patterns_seen}
use Rattle.c_expressions.specs.declared.arms.Way.{Way}
use Rattle.c_expressions.specs.declared.calls.ArgumentCode.{ArgumentCode}
use Rattle.c_expressions.specs.declared.made.Code.{Code}
use Rattle.c_expressions.specs.declared.made.Destination.{Destination}
use Rattle.c_expressions.specs.declared.made.Destination.TheVariants as to
use Rattle.c_expressions.specs.declared.made.Made.{Made}
use Rattle.c_expressions.specs.Expressions.{Part, Scope, Ways, argument_typed, arguments_made, arm_built, arm_uses, arms_built, built, call_built, call_valued, case_built, con_built, effects, element_in, form_built}
use Rattle.c_expressions.specs.inner.Parts.{arm_of, arms_of}
use Rattle.c_expressions.specs.Expressions.{joined, layer_built, layer_value, let_value, no_arm, no_exp, object_built, operation_value, part_built, part_of, parts_built, scalar_value, subject, tried, tuple_built, value, vector_built, ways_step}
use Rattle.c_expressions.specs.inner.Parts.{layer_of, parts_of}
use Rattle.c_expressions.specs.Made.{behind, followed, nothing, without_value}
use Rattle.c_expressions.specs.inner.Ways.{way_of, ways_before}
use Rattle.c_expressions.proofs.Turns.{drop_next}

module _ (t : Target) (e : TypedExpr) (scope : Scope) (ty : Ty) (next : ℕ) where
  pub value_is : value t e scope ty next ≡ layer_value t (layer_of t e) scope ty next
  value_is = ap (λ (ways : Ways). ways.value scope ty next) (by_form (ways_step t) (out-TypedExpr e) e (roll-out-TypedExpr e))

  pub built_is : (into : Destination) → built t e scope into ty next ≡ layer_built t (layer_of t e) e scope into ty next
  built_is into =
      ap (λ (ways : Ways). ways.build scope into ty next) (by_form (ways_step t) (out-TypedExpr e) e (roll-out-TypedExpr e))
      ∙ ap (λ d. layer_built t (layer_of t e) d scope into ty next) (whole_is (ways_step t) (out-TypedExpr e) e (roll-out-TypedExpr e))

pub ruleset value_forms = (out_forms, value_is)

pub ruleset built_forms = (common_steps, value_is, built_is)

-- ---- alternatives

pub last_way : (ways : List Way) (way : Way) (last : Made) → ways_before (ways ++ way ∷ []) last ≡ ways_before ways (tried way.tests way.made.statements last)
last_way [] way last = refl
last_way (first ∷ ways) way last = ap (tried first.tests first.made.statements) (last_way ways way last)

pub no_exp_tells : (exps : List CExp) → no_exp exps ≡ true → exps ≡ []
no_exp_tells [] is = refl
no_exp_tells (first ∷ exps) is = absurd (false≢true is)

pub no_arm_end : {A : Type 0} (n : ℕ) (arms : List A) → n ≡ length arms → no_arm (drop n arms) ≡ true
no_arm_end zero [] is = refl
no_arm_end zero (arm ∷ arms) is = absurd (omega (arith, is))
no_arm_end (suc n) [] is = absurd (omega (arith, is))
no_arm_end (suc n) (arm ∷ arms) is = no_arm_end n arms (omega (arith, is))

pub no_arm_more : {A : Type 0} (n : ℕ) (arms : List A) → n < length arms → no_arm (drop n arms) ≡ false
no_arm_more zero [] lt = absurd (omega (arith, lt))
no_arm_more zero (arm ∷ arms) lt = refl
no_arm_more (suc n) [] lt = absurd (omega (arith, lt))
no_arm_more (suc n) (arm ∷ arms) lt = no_arm_more n arms (omega (arith, lt))

pub ruleset way_steps = (common_steps, last_way)

pub ruleset last_steps = (common_steps, no_exp_tells, no_arm_end, no_arm_more)

no_arm_map : {A B : Type 0} (f : A → B) (xs : List A) → no_arm (map f xs) ≡ no_arm xs
no_arm_map f [] = refl
no_arm_map f (x ∷ xs) = refl

-- the alternatives from a place on
module _ (t : Target) (scope : Scope) (into : Destination) (ty of : Ty) (object : CExp) (complete : Bool) (arms : List (PatC × TypedExpr))
    (n : ℕ) (arm : PatC × TypedExpr) (next : ℕ) (way : Way) where
  abbrev from : ℕ → ℕ → Made
  from place number = arms_built t scope into ty of object complete number (arms_of t (drop place arms))

  abbrev ends : Bool
  ends = no_exp way.tests || (complete && no_arm (drop (n + 1) arms))

  abbrev found : Way
  found = way_of t arm of object scope into ty next

  arms_behind : n < length arms → arm ≡ get_or arms n arm → way ≡ found
      → from n next ≡ arm_built way.tests (complete && no_arm (drop (n + 1) arms)) way.made (from (n + 1) way.made.next)
  arms_behind lt is same =
      ap (λ them. arms_built t scope into ty of object complete next (arms_of t them)) (drop_next arms n arm lt is)
      ∙ ap (λ last. arm_built found.tests (complete && last) found.made (from (n + 1) found.made.next)) (no_arm_map (arm_of t) (drop (n + 1) arms))
      ∙ ap (λ (it : Way). arm_built it.tests (complete && no_arm (drop (n + 1) arms)) it.made (from (n + 1) it.made.next)) (sym same)

  pub arms_end : n < length arms → arm ≡ get_or arms n arm → way ≡ found → ends ≡ true → from n next ≡ way.made
  arms_end lt is same last =
      arms_behind lt is same ∙ ap (λ b. if b then way.made else tried way.tests way.made.statements (from (n + 1) way.made.next)) last

  pub arms_go_on : n < length arms → arm ≡ get_or arms n arm → way ≡ found → ends ≡ false
      → from n next ≡ tried way.tests way.made.statements (from (n + 1) way.made.next)
  arms_go_on lt is same more =
      arms_behind lt is same ∙ ap (λ b. if b then way.made else tried way.tests way.made.statements (from (n + 1) way.made.next)) more

  pub ways_go_on : (ways : List Way) → n < length arms → arm ≡ get_or arms n arm → way ≡ found → ends ≡ false
      → ways_before (ways ++ way ∷ []) (from (n + 1) way.made.next) ≡ ways_before ways (from n next)
  ways_go_on ways lt is same more = last_way ways way _ ∙ ap (ways_before ways) (sym (arms_go_on lt is same more))

-- the parts from a place on
module _ (t : Target) (parts : List TypedExpr) (n : ℕ) (part : TypedExpr) where
  pub parts_go_on : (ty_at : ℕ → Option Ty) (into : ℕ → Destination) (scope : Scope) (before more after : Made) → n < length parts → part ≡ get_or parts n part
      → more ≡ part_built (part_of t part) scope (into n) (ty_at n) before.next → after ≡ followed before more
      → parts_built ty_at into scope (n + 1) (parts_of t (drop (n + 1) parts)) after ≡ parts_built ty_at into scope n (parts_of t (drop n parts)) before
  parts_go_on ty_at into scope before more after lt is made_is after_is =
      ap (parts_built ty_at into scope (n + 1) (parts_of t (drop (n + 1) parts))) (after_is ∙ ap (followed before) made_is)
      ∙ ap (λ them. parts_built ty_at into scope n (parts_of t them) before) (sym (drop_next parts n part lt is))

  pub arguments_go_on : (callee : Known) (scope : Scope) (before more after : ArgumentCode) → n < length parts → part ≡ get_or parts n part
      → more ≡ argument_typed t (part_of t part) scope (slice_get callee.function.params n) (uses_argument callee.called n) before.next → after ≡ joined before more
      → arguments_made t callee scope (n + 1) (parts_of t (drop (n + 1) parts)) after ≡ arguments_made t callee scope n (parts_of t (drop n parts)) before
  arguments_go_on callee scope before more after lt is made_is after_is =
      ap (arguments_made t callee scope (n + 1) (parts_of t (drop (n + 1) parts))) (after_is ∙ ap (joined before) made_is)
      ∙ ap (λ them. arguments_made t callee scope n (parts_of t them) before) (sym (drop_next parts n part lt is))

-- the forms of an expression, with parts that are told
module _ (t : Target) (e : TypedExpr) (scope : Scope) (into : Destination) (ty : Ty) (next : ℕ) where
  layer_is : (x : TypedExpr-F TypedExpr) → out-TypedExpr e ≡ x → layer_of t e ≡ map-TypedExpr TypedExpr Part (part_of t) x
  layer_is x is = ap (map-TypedExpr TypedExpr Part (part_of t)) is

  formed : (x : TypedExpr-F TypedExpr) → out-TypedExpr e ≡ x
      → form_built t (map-TypedExpr TypedExpr Part (part_of t) x) scope into ty next ≡ form_built t (layer_of t e) scope into ty next
  formed x is = ap (λ layer. form_built t layer scope into ty next) (sym (layer_is x is))

  objected : (x : TypedExpr-F TypedExpr) → out-TypedExpr e ≡ x
      → object_built t (map-TypedExpr TypedExpr Part (part_of t) x) scope into ty next ≡ object_built t (layer_of t e) scope into ty next
  objected x is = ap (λ layer. object_built t layer scope into ty next) (sym (layer_is x is))

  pub case_formed : (of : Ty) (a : TypedExpr) (arms : List (PatC × TypedExpr)) (other : Ty) (x : TypedExpr) (xs : List (PatC × TypedExpr))
      → e ≡ typed.Case of a arms → other ≡ of → x ≡ a → xs ≡ arms
      → case_built t other (part_of t x) (arms_of t xs) scope into ty next ≡ form_built t (layer_of t e) scope into ty next
  case_formed of a arms other x xs is first second third =
      (λ i. case_built t (first i) (part_of t (second i)) (arms_of t (third i)) scope into ty next)
      ∙ formed (TypedExpr-F.Case of a arms) (ap out-TypedExpr is ∙ out-case of a arms)

  pub call_formed : (f : ℕ) (es xs : List TypedExpr) → e ≡ typed.Call f es → xs ≡ es
      → call_built t (callee_of t f) (parts_of t xs) scope into ty next ≡ form_built t (layer_of t e) scope into ty next
  call_formed f es xs is same =
      ap (λ them. call_built t (callee_of t f) (parts_of t them) scope into ty next) same
      ∙ formed (TypedExpr-F.Call f es) (ap out-TypedExpr is ∙ out-call f es)

  pub tuple_formed : (es xs : List TypedExpr) → e ≡ typed.Tuple es → xs ≡ es
      → tuple_built (out-Ty ty) scope into next (parts_of t xs) ≡ object_built t (layer_of t e) scope into ty next
  tuple_formed es xs is same =
      ap (λ them. tuple_built (out-Ty ty) scope into next (parts_of t them)) same
      ∙ objected (TypedExpr-F.Tuple es) (ap out-TypedExpr is ∙ out-tuple es)

  pub vect_formed : (es xs : List TypedExpr) → e ≡ typed.Vect es → xs ≡ es
      → vector_built (out-Ty ty) scope into next (parts_of t xs) ≡ object_built t (layer_of t e) scope into ty next
  vect_formed es xs is same =
      ap (λ them. vector_built (out-Ty ty) scope into next (parts_of t them)) same
      ∙ objected (TypedExpr-F.Vect es) (ap out-TypedExpr is ∙ out-vect es)

  pub con_formed : (c : ℕ) (es xs : List TypedExpr) → e ≡ typed.Con c es → xs ≡ es
      → con_built t (con_of t ty c) (form_of t.file.types ty) scope into next c (parts_of t xs) ≡ object_built t (layer_of t e) scope into ty next
  con_formed c es xs is same =
      ap (λ them. con_built t (con_of t ty c) (form_of t.file.types ty) scope into next c (parts_of t them)) same
      ∙ objected (TypedExpr-F.Con c es) (ap out-TypedExpr is ∙ out-con c es)

-- the values of an expression, with parts that are told
module _ (t : Target) (e : TypedExpr) (scope : Scope) (ty : Ty) (next : ℕ) where
  with_layer : (x : TypedExpr-F TypedExpr) → out-TypedExpr e ≡ x → layer_of t e ≡ map-TypedExpr TypedExpr Part (part_of t) x
  with_layer x is = ap (map-TypedExpr TypedExpr Part (part_of t)) is

  pub prim_effects : (op : Op) (of : Ty) (es xs : List TypedExpr) → e ≡ typed.Prim op of es → xs ≡ es → is_division op ≡ false
      → parts_built (λ place. Some of) (element_in to.Nowhere) scope 0 (parts_of t xs) (nothing next) ≡ effects t (layer_of t e) scope ty next
  prim_effects op of es xs is same other =
      ap (λ them. parts_built (λ place. Some of) (element_in to.Nowhere) scope 0 (parts_of t them) (nothing next)) same
      ∙ ap (λ b. if b then without_value (operation_value t op of (parts_of t es) scope next)
      else parts_built (λ place. Some of) (element_in to.Nowhere) scope 0 (parts_of t es) (nothing next)) (sym other)
      ∙ ap (λ layer. effects t layer scope ty next) (sym (with_layer (TypedExpr-F.Prim op of es) (ap out-TypedExpr is ∙ out-prim op of es)))

  pub prim_value : (op : Op) (of : Ty) (es xs : List TypedExpr) → e ≡ typed.Prim op of es → xs ≡ es
      → operation_value t op of (parts_of t xs) scope next ≡ value t e scope ty next
  prim_value op of es xs is same =
      ap (λ them. operation_value t op of (parts_of t them) scope next) same
      ∙ ap (λ layer. layer_value t layer scope ty next) (sym (with_layer (TypedExpr-F.Prim op of es) (ap out-TypedExpr is ∙ out-prim op of es)))
      ∙ sym (value_is t e scope ty next)

  pub call_value_formed : (f : ℕ) (es xs : List TypedExpr) → e ≡ typed.Call f es → xs ≡ es
      → call_valued t (callee_of t f) (parts_of t xs) scope ty next ≡ scalar_value t (layer_of t e) scope ty next
  call_value_formed f es xs is same =
      ap (λ them. call_valued t (callee_of t f) (parts_of t them) scope ty next) same
      ∙ ap (λ layer. scalar_value t layer scope ty next) (sym (with_layer (TypedExpr-F.Call f es) (ap out-TypedExpr is ∙ out-call f es)))

  pub let_valued : (of : Ty) (a b : TypedExpr) (other : Ty) → e ≡ typed.Let of a b → other ≡ of
      → let_value t other (part_of t a) (part_of t b) scope ty next ≡ value t e scope ty next
  let_valued of a b other is same =
      ap (λ it. let_value t it (part_of t a) (part_of t b) scope ty next) same
      ∙ ap (λ layer. layer_value t layer scope ty next) (sym (with_layer (TypedExpr-F.Let of a b) (ap out-TypedExpr is ∙ out-let of a b)))
      ∙ sym (value_is t e scope ty next)

abbrev arm_use : Target → PatC × TypedExpr → PatC × Seen Uses
arm_use t arm = (arm.0, seen (uses_step t) arm.1)

uses_same : (t : Target) (arms : List (PatC × TypedExpr)) → arm_uses t (arms_of t arms) ≡ map (arm_use t) arms
uses_same t [] = refl
uses_same t (arm ∷ arms) = ap (λ others. arm_use t arm ∷ others) (uses_same t arms)

complete_same : (t : Target) (of : Ty) (arms : List (PatC × TypedExpr)) → arms_complete t of (arms_of t arms) ≡ arms_complete t of arms
complete_same t of arms = ap (are_complete t.file.types (forms_of of)) (patterns_seen (ways_step t) arms)

-- the object of a `case` and its alternatives
module _ (t : Target) (of : Ty) (part : TypedExpr) (arms : List (PatC × TypedExpr)) (scope : Scope) (into : Destination) (ty : Ty) (next : ℕ) where
  abbrev behind_object : Bool → Code → Scope → Made
  behind_object complete object now = behind object.statements (arms_built t now into ty of object.exp complete object.next (arms_of t arms))

  pub case_is : (count : ℕ) (used : Bool) (object : Code) (now : Scope) → count ≡ length scope
      → used ≡ looked_at t of (arms_complete t of arms) count (map (arm_use t) arms)
      → object ≡ subject t (part_of t part) used scope of next → now ≡ scope
      → behind_object (arms_complete t of arms) object now ≡ case_built t of (part_of t part) (arms_of t arms) scope into ty next
  case_is count used object now count_is used_is object_is now_is =
      λ i. behind_object (sym (complete_same t of arms) i) ((object_is ∙ ap (λ it. subject t (part_of t part) it scope of next) whole) i) (now_is i)
    where
      whole : used ≡ looked_at t of (arms_complete t of (arms_of t arms)) (length scope) (arm_uses t (arms_of t arms))
      whole = used_is ∙ (λ i. looked_at t of (sym (complete_same t of arms) i) (count_is i) (sym (uses_same t arms) i))

-- where there is a value, what holds anyway
pub anyway : {A E : Type 0} {P : Type 0} (result : Result A E) → P → OnOk result P
anyway (Ok it) p = p
anyway (Err e) p = tt
