-- Which variables a result uses, form by form.
use Rattle.std.proofs.Common.{◌≡◌, ℕ, ◌+◌, ◌<◌, not, ◌||◌, Bool, true, false, List, [], ◌∷◌, ◌++◌, map, drop, get_or, length, replicate, Option, Some, None, refl, ap, sym, ◌∙◌}
use Rattle.std.specs.List.{filter_map}
use Rattle.std.proofs.lemmas.Grind.{common_steps}
use Rattle.std.proofs.lemmas.List.{replicate-append-replicate}
use Rattle.hume_base.specs.declared.types.Ty.{Ty}
use Rattle.hume_model.specs.declared.core_tree.PatC.{PatC}
use Rattle.hume_model.specs.Completeness.{are_complete}
use Rattle.hume_model.specs.Forms.{forms_of}
use Rattle.typed_core.specs.declared.typed_tree.TypedExpr.{TypedExpr}
use Rattle.typed_core.specs.declared.typed_tree.TypedResult.{TypedResult}
use Rattle.typed_core.specs.declared.typed_tree.TypedResult.TheOpen.{TypedResult-F}
use Rattle.typed_core.specs.declared.typed_tree.TypedResult.TheVariants as typed
use Rattle.c_expressions.specs.Expressions.{no_arm}
use Rattle.c_expressions.proofs.WaysForms.{no_arm_end, no_arm_more}
use Rattle.c_analysis.specs.Needs.{needs_test}
use Rattle.c_analysis.specs.Raises.{arms_complete, pattern_of}
use Rattle.c_analysis.specs.Targets.{Target}
use Rattle.c_boxes.specs.Marks.{Looked, Marks, arms_mark, case_marks, expression_marks, let_marks, looked, outputs_mark, unmarked, with_others}
use Rattle.c_boxes.specs.Results.{Given, arm_mark}
use Rattle.c_boxes.specs.inner.Arms.{arm_given, arm_left, body_left, result_marks}
use Rattle.c_boxes.proofs.ResultForms.{drop_next, form, no_arm_map}

module _ (t : Target) where
  patterns_marked : (arms : List (PatC × TypedResult)) → filter_map (pattern_of {A = Marks}) (map arm_mark (map (arm_given t) arms)) ≡ filter_map (pattern_of {A = TypedResult}) arms
  patterns_marked [] = refl
  patterns_marked (arm ∷ arms) = ap (λ ps. arm.0 ∷ ps) (patterns_marked arms)

  pub complete_marked : (of : Ty) (arms : List (PatC × TypedResult)) → arms_complete t of (map arm_mark (map (arm_given t) arms)) ≡ arms_complete t of arms
  complete_marked of arms = ap (are_complete t.file.types (forms_of of)) (patterns_marked arms)

  module _ (marks : List Bool) where
    marks_is : {g h : Given} → g ≡ h → g.marks marks ≡ h.marks marks
    marks_is is = ap (λ (g : Given). g.marks marks) is

    pub mark_outs : (outs : List (Option TypedExpr)) → result_marks t (typed.Outs outs) marks ≡ outputs_mark t outs marks
    mark_outs outs = marks_is (form t _ (TypedResult-F.Outs outs) (typed.rolls-Outs outs))

    pub mark_choice : (test : TypedExpr) (first second : TypedResult)
        → result_marks t (typed.If test first second) marks ≡ result_marks t second (result_marks t first (expression_marks t test marks))
    mark_choice test first second = marks_is (form t _ (TypedResult-F.If test first second) (typed.rolls-If test first second))

    pub mark_case : (of : Ty) (part : TypedExpr) (arms : List (PatC × TypedResult))
        → result_marks t (typed.Case of part arms) marks
        ≡ case_marks t part (arms_mark t of (arms_complete t of arms) (map arm_mark (map (arm_given t) arms)) marks)
    mark_case of part arms =
        marks_is (form t _ (TypedResult-F.Case of part arms) (typed.rolls-Case of part arms))
        ∙ ap (λ complete. case_marks t part (arms_mark t of complete (map arm_mark (map (arm_given t) arms)) marks)) (complete_marked of arms)

    pub mark_let : (of : Ty) (part : TypedExpr) (body : TypedResult)
        → result_marks t (typed.Let of part body) marks ≡ let_marks t part (body_left t body marks)
    mark_let of part body = marks_is (form t _ (TypedResult-F.Let of part body) (typed.rolls-Let of part body))

    pub mark_raise : (exn : ℕ) → result_marks t (typed.Raise exn None) marks ≡ marks
    mark_raise exn = marks_is (form t _ (TypedResult-F.Raise exn None) (typed.rolls-Raise exn None))

    pub mark_raise_with : (exn : ℕ) (part : TypedExpr) → result_marks t (typed.Raise exn (Some part)) marks ≡ expression_marks t part marks
    mark_raise_with exn part = marks_is (form t _ (TypedResult-F.Raise exn (Some part)) (typed.rolls-Raise exn (Some part)))

pub unmarked_more : (count : ℕ) → unmarked count ++ false ∷ [] ≡ unmarked (count + 1)
unmarked_more count = replicate-append-replicate count 1 false

pub ruleset mark_forms = (common_steps, mark_outs, mark_choice, mark_case, mark_let, mark_raise, mark_raise_with, unmarked_more)

pub ruleset arm_steps = (common_steps, no_arm_end, no_arm_more)

or_assoc : (a b c : Bool) → ((a || b) || c) ≡ (a || (b || c))
or_assoc true b c = refl
or_assoc false b c = refl

-- the marks and the object behind an arm that has tests
module _ (t : Target) (of : Ty) (complete : Bool) (arms : List (PatC × TypedResult)) (n : ℕ) (arm : PatC × TypedResult) (before marks : List Bool) (object goes : Bool) where
  abbrev from : ℕ → List Bool → Looked
  from place = arms_mark t of complete (map arm_mark (map (arm_given t) (drop place arms)))

  abbrev first : Looked
  first = arm_left t arm before

  behind_arm : n < length arms → arm ≡ get_or arms n arm → marks ≡ first.marks → object ≡ first.object → needs_test t of arm.0 ≡ true
      → goes ≡ (not (no_arm (drop (n + 1) arms)) || not complete)
      → from n before ≡ looked (from (n + 1) marks).marks (object || (goes || (from (n + 1) marks).object))
  behind_arm lt is marks_are object_is tests goes_is =
      ap (λ them. arms_mark t of complete (map arm_mark (map (arm_given t) them)) before) (drop_next arms n arm lt is)
      ∙ (λ i. with_others (tests i) (sym goes_on i) (looked (sym marks_are i) (sym object_is i)) (from (n + 1) (sym marks_are i)))
    where
      goes_on : goes ≡ (not (no_arm (map arm_mark (map (arm_given t) (drop (n + 1) arms)))) || not complete)
      goes_on = goes_is ∙ ap (λ last. not last || not complete)
          (sym (no_arm_map arm_mark (map (arm_given t) (drop (n + 1) arms)) ∙ no_arm_map (arm_given t) (drop (n + 1) arms)))

  pub arm_marks_next : n < length arms → arm ≡ get_or arms n arm → marks ≡ first.marks → object ≡ first.object → needs_test t of arm.0 ≡ true
      → goes ≡ (not (no_arm (drop (n + 1) arms)) || not complete)
      → (from (n + 1) marks).marks ≡ (from n before).marks
  arm_marks_next lt is marks_are object_is tests goes_is = ap (λ (it : Looked). it.marks) (sym (behind_arm lt is marks_are object_is tests goes_is))

  pub arm_object_next : (looked_at : Bool) → n < length arms → arm ≡ get_or arms n arm → marks ≡ first.marks → object ≡ first.object → needs_test t of arm.0 ≡ true
      → goes ≡ (not (no_arm (drop (n + 1) arms)) || not complete)
      → ((looked_at || (object || goes)) || (from (n + 1) marks).object) ≡ (looked_at || (from n before).object)
  arm_object_next looked_at lt is marks_are object_is tests goes_is =
      or_assoc looked_at (object || goes) _
      ∙ ap (λ b. looked_at || b) (or_assoc object goes _ ∙ ap (λ (it : Looked). it.object) (sym (behind_arm lt is marks_are object_is tests goes_is)))
