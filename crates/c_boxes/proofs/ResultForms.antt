-- What is written of a result, form by form.
use Rattle.std.proofs.Common.{◌≡◌, ℕ, suc, ◌+◌, ◌<◌, ◌||◌, ◌&&◌, Bool, true, false, List, [], ◌∷◌, ◌++◌, map, drop, drop-cons, get_or, length, Option, Some, None, slice_get, refl, ap, sym, ◌∙◌, arith, if◌then◌else◌}
use Rattle.std.specs.List.{filter_map}
use Rattle.std.proofs.lemmas.Grind.{common_steps}
use Rattle.hume_base.specs.declared.types.Ty.{Ty}
use Rattle.hume_model.specs.declared.core_tree.BoxC.{BoxC}
use Rattle.hume_model.specs.declared.core_tree.PatC.{PatC}
use Rattle.hume_model.specs.Completeness.{are_complete}
use Rattle.hume_model.specs.Forms.{forms_of}
use Rattle.typed_core.specs.declared.typed_tree.TypedExpr.{TypedExpr}
use Rattle.typed_core.specs.declared.typed_tree.TypedResult.{TypedResult, fold-roll-TypedResult, map-TypedResult, roll-TypedResult}
use Rattle.typed_core.specs.declared.typed_tree.TypedResult.TheOpen.{TypedResult-F}
use Rattle.typed_core.specs.declared.typed_tree.TypedResult.TheVariants as typed
use Rattle.c_tree.specs.declared.tree.CExp.{CExp}
use Rattle.c_expressions.specs.declared.arms.Way.{Way}
use Rattle.c_expressions.specs.declared.made.Made.{Made}
use Rattle.c_expressions.specs.inner.Ways.{ways_before}
use Rattle.c_expressions.specs.Expressions.{Scope, arm_built, no_arm, no_exp, part_of, raised, raised_with, tried}
use Rattle.c_expressions.specs.Made.{made}
use Rattle.c_expressions.proofs.WaysForms.{last_way}
use Rattle.c_analysis.specs.Raises.{arms_complete, pattern_of}
use Rattle.c_analysis.specs.Targets.{Target}
use Rattle.c_boxes.specs.Results.{Given, arm_way, arms_made, case_made, given, given_step, if_made, let_made, outs_made, result_made}
use Rattle.c_boxes.specs.inner.Arms.{arm_given}

module _ (t : Target) where
  pub form : (r : TypedResult) (x : TypedResult-F TypedResult) → roll-TypedResult x ≡ r → given t r ≡ given_step t (map-TypedResult TypedResult Given (given t) x)
  form r x is = ap (given t) (sym is) ∙ fold-roll-TypedResult Given (given_step t) x

  patterns_given : (arms : List (PatC × TypedResult)) → filter_map (pattern_of {A = Given}) (map (arm_given t) arms) ≡ filter_map (pattern_of {A = TypedResult}) arms
  patterns_given [] = refl
  patterns_given (arm ∷ arms) = ap (λ ps. arm.0 ∷ ps) (patterns_given arms)

  pub complete_given : (of : Ty) (arms : List (PatC × TypedResult)) → arms_complete t of (map (arm_given t) arms) ≡ arms_complete t of arms
  complete_given of arms = ap (are_complete t.file.types (forms_of of)) (patterns_given arms)

  module _ (b : BoxC) (scope : Scope) (next : ℕ) where
    made_is : {g h : Given} → g ≡ h → g.made b scope next ≡ h.made b scope next
    made_is is = ap (λ (g : Given). g.made b scope next) is

    pub made_outs : (outs : List (Option TypedExpr)) → result_made t (typed.Outs outs) b scope next ≡ outs_made t outs b scope next
    made_outs outs = made_is (form _ (TypedResult-F.Outs outs) (typed.rolls-Outs outs))

    pub made_if : (test : TypedExpr) (first second : TypedResult)
        → result_made t (typed.If test first second) b scope next ≡ if_made t test (given t first) (given t second) b scope next
    made_if test first second = made_is (form _ (TypedResult-F.If test first second) (typed.rolls-If test first second))

    pub made_case : (of : Ty) (part : TypedExpr) (arms : List (PatC × TypedResult))
        → result_made t (typed.Case of part arms) b scope next ≡ case_made t of part (map (arm_given t) arms) b scope next
    made_case of part arms = made_is (form _ (TypedResult-F.Case of part arms) (typed.rolls-Case of part arms))

    pub made_let : (of : Ty) (part : TypedExpr) (body : TypedResult)
        → result_made t (typed.Let of part body) b scope next ≡ let_made t of part (given t body) b scope next
    made_let of part body = made_is (form _ (TypedResult-F.Let of part body) (typed.rolls-Let of part body))

    pub made_raise : (exn : ℕ) → result_made t (typed.Raise exn None) b scope next ≡ made (raised t exn) next
    made_raise exn = made_is (form _ (TypedResult-F.Raise exn None) (typed.rolls-Raise exn None))

    pub made_raise_with : (exn : ℕ) (part : TypedExpr)
        → result_made t (typed.Raise exn (Some part)) b scope next ≡ raised_with t (part_of t part) scope next (slice_get t.core.exns exn)
    made_raise_with exn part = made_is (form _ (TypedResult-F.Raise exn (Some part)) (typed.rolls-Raise exn (Some part)))

pub drop_next : {A : Type 0} (xs : List A) (i : ℕ) (x : A) → i < length xs → x ≡ get_or xs i x → drop i xs ≡ x ∷ drop (i + 1) xs
drop_next xs i x lt is =
    let one : i + 1 ≡ suc i = omega arith in
    drop-cons xs i x lt ∙ ap (λ y. y ∷ drop (suc i) xs) (sym is) ∙ ap (λ n. x ∷ drop n xs) (sym one)

pub no_arm_map : {A B : Type 0} (f : A → B) (xs : List A) → no_arm (map f xs) ≡ no_arm xs
no_arm_map f [] = refl
no_arm_map f (x ∷ xs) = refl

-- the alternatives from a place on
module _ (t : Target) (b : BoxC) (scope : Scope) (of : Ty) (object : CExp) (complete : Bool) (arms : List (PatC × TypedResult))
    (n : ℕ) (arm : PatC × TypedResult) (next : ℕ) (way : Way) where
  abbrev from : ℕ → ℕ → Made
  from place number = arms_made t of object complete (map (arm_given t) (drop place arms)) b scope number

  abbrev ends : Bool
  ends = no_exp way.tests || (complete && no_arm (drop (n + 1) arms))

  abbrev found : Way
  found = arm_way t of object (arm_given t arm) b scope next

  arms_from : n < length arms → arm ≡ get_or arms n arm → way ≡ found
      → from n next ≡ arm_built way.tests (complete && no_arm (drop (n + 1) arms)) way.made (from (n + 1) way.made.next)
  arms_from lt is same =
      ap (λ them. arms_made t of object complete (map (arm_given t) them) b scope next) (drop_next arms n arm lt is)
      ∙ ap (λ last. arm_built found.tests (complete && last) found.made (from (n + 1) found.made.next)) (no_arm_map (arm_given t) (drop (n + 1) arms))
      ∙ ap (λ (it : Way). arm_built it.tests (complete && no_arm (drop (n + 1) arms)) it.made (from (n + 1) it.made.next)) (sym same)

  pub arms_end : n < length arms → arm ≡ get_or arms n arm → way ≡ found → ends ≡ true → from n next ≡ way.made
  arms_end lt is same last =
      arms_from lt is same ∙ ap (λ b. if b then way.made else tried way.tests way.made.statements (from (n + 1) way.made.next)) last

  pub ways_go_on : (ways : List Way) → n < length arms → arm ≡ get_or arms n arm → way ≡ found → ends ≡ false
      → ways_before (ways ++ way ∷ []) (from (n + 1) way.made.next) ≡ ways_before ways (from n next)
  ways_go_on ways lt is same more =
      last_way ways way _
      ∙ ap (ways_before ways) (sym (arms_from lt is same ∙ ap (λ b. if b then way.made else tried way.tests way.made.statements (from (n + 1) way.made.next)) more))

pub ruleset result_forms = (common_steps, made_outs, made_if, made_case, made_let, made_raise, made_raise_with, complete_given)
