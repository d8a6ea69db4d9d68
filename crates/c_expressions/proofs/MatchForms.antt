-- What patterns match, form by form.
use Rattle.std.proofs.Common.{◌≡◌, ℕ, zero, suc, ◌+◌, ◌<◌, List, [], ◌∷◌, ◌++◌, drop, map, slice_get, get_or, length, None, arith, refl, ap, sym, ◌∙◌, append_assoc, append-nil}
use Rattle.std.proofs.lemmas.Grind.{common_steps}
use Rattle.hume_base.specs.declared.types.Ty.{Ty, out-Ty}
use Rattle.hume_model.specs.declared.core_tree.PatC.{PatC, roll-PatC, map-PatC, fold-roll-PatC}
use Rattle.hume_model.specs.declared.core_tree.PatC.TheOpen.{PatC-F}
use Rattle.hume_model.specs.declared.core_tree.PatC.TheVariants as pat
use Rattle.c_tree.specs.declared.tree.CExp.{CExp}
use Rattle.c_types.specs.Shapes.{form_of}
use Rattle.c_expressions.specs.Patterns.{Match, Matching, both, con_match, fields_match, match_step, matched, matching, tuple_match, word_test}
use Rattle.c_expressions.specs.inner.Fields.{field_matched}
use Rattle.c_analysis.specs.Targets.{Target}
use Rattle.c_expressions.proofs.Turns.{drop_next}

module _ (t : Target) (ty : Ty) (object : CExp) where
  form : (x : PatC-F PatC) (p : PatC) → roll-PatC x ≡ p → matched t p ty object ≡ match_step t (map-PatC PatC Matching (matched t) x) ty object
  form x p is = ap (λ q. matched t q ty object) (sym is) ∙ ap (λ (f : Matching). f ty object) (fold-roll-PatC Matching (match_step t) x)

  pub match_var : matched t pat.Var ty object ≡ matching [] (object ∷ [])
  match_var = form PatC-F.Var _ pat.rolls-Var

  pub match_any : matched t pat.Any ty object ≡ matching [] []
  match_any = form PatC-F.Any _ pat.rolls-Any

  pub match_word : (w : ℕ) → matched t (pat.Word w) ty object ≡ matching (word_test ty object w ∷ []) []
  match_word w = form (PatC-F.Word w) _ (pat.rolls-Word w)

  pub match_con : (c : ℕ) (ps : List PatC) → matched t (pat.Con c ps) ty object ≡ con_match t (form_of t.file.types ty) c object (map (matched t) ps)
  match_con c ps = form (PatC-F.Con c ps) _ (pat.rolls-Con c ps)

  pub match_tuple : (ps : List PatC) → matched t (pat.Tuple ps) ty object ≡ tuple_match (out-Ty ty) object (map (matched t) ps)
  match_tuple ps = form (PatC-F.Tuple ps) _ (pat.rolls-Tuple ps)

pub no_types : (object : CExp) (place : ℕ) (parts : List Matching) → fields_match object place [] parts ≡ matching [] []
no_types object place [] = refl
no_types object place (part ∷ parts) = refl

at_place : (object : CExp) (place n : ℕ) (tys : List Ty) (part : Matching) (parts : List Matching)
    → fields_match object place (drop n tys) (part ∷ parts)
    ≡ both (field_matched part object place (slice_get tys n)) (fields_match object (place + 1) (drop (suc n) tys) parts)
at_place object place zero [] part parts = ap (λ rest. both (matching [] []) rest) (sym (no_types object (place + 1) parts))
at_place object place zero (ty ∷ tys) part parts = refl
at_place object place (suc n) [] part parts = ap (λ rest. both (matching [] []) rest) (sym (no_types object (place + 1) parts))
at_place object place (suc n) (ty ∷ tys) part parts = at_place object place n tys part parts

next_number : (n : ℕ) → suc n ≡ n + 1
next_number n = omega arith

next_place : (object : CExp) (place : ℕ) (tys : List Ty) (part : Matching) (parts : List Matching)
    → fields_match object place (drop place tys) (part ∷ parts)
    ≡ both (field_matched part object place (slice_get tys place)) (fields_match object (place + 1) (drop (place + 1) tys) parts)
next_place object place tys part parts =
    at_place object place place tys part parts
    ∙ ap (λ n. both (field_matched part object place (slice_get tys place)) (fields_match object (place + 1) (drop n tys) parts)) (next_number place)

pub next_tests : (t : Target) (tests : List CExp) (object : CExp) (place : ℕ) (tys : List Ty) (p : PatC) (ps : List PatC)
    → tests ++ (fields_match object place (drop place tys) (map (matched t) (p ∷ ps))).tests
    ≡ (tests ++ (field_matched (matched t p) object place (slice_get tys place)).tests)
    ++ (fields_match object (place + 1) (drop (place + 1) tys) (map (matched t) ps)).tests
next_tests t tests object place tys p ps =
    ap (λ (it : Match). tests ++ it.tests) (next_place object place tys (matched t p) (map (matched t) ps))
    ∙ sym (append_assoc tests _ _)

pub next_objects : (t : Target) (objects : List CExp) (object : CExp) (place : ℕ) (tys : List Ty) (p : PatC) (ps : List PatC)
    → objects ++ (fields_match object place (drop place tys) (map (matched t) (p ∷ ps))).objects
    ≡ (objects ++ (field_matched (matched t p) object place (slice_get tys place)).objects)
    ++ (fields_match object (place + 1) (drop (place + 1) tys) (map (matched t) ps)).objects
next_objects t objects object place tys p ps =
    ap (λ (it : Match). objects ++ it.objects) (next_place object place tys (matched t p) (map (matched t) ps))
    ∙ sym (append_assoc objects _ _)

-- the fields from a place on
module _ (t : Target) (object : CExp) (place : ℕ) (tys : List Ty) (parts : List PatC) (p : PatC) (before after : List CExp) where
  pub tests_go_on : place < length parts → p ≡ get_or parts place p → after ≡ before ++ (field_matched (matched t p) object place (slice_get tys place)).tests
      → after ++ (fields_match object (place + 1) (drop (place + 1) tys) (map (matched t) (drop (place + 1) parts))).tests
      ≡ before ++ (fields_match object place (drop place tys) (map (matched t) (drop place parts))).tests
  tests_go_on lt is after_is =
      ap (λ (tests : List CExp). tests ++ (fields_match object (place + 1) (drop (place + 1) tys) (map (matched t) (drop (place + 1) parts))).tests) after_is
      ∙ sym (next_tests t before object place tys p (drop (place + 1) parts))
      ∙ ap (λ them. before ++ (fields_match object place (drop place tys) (map (matched t) them)).tests) (sym (drop_next parts place p lt is))

  pub objects_go_on : place < length parts → p ≡ get_or parts place p → after ≡ before ++ (field_matched (matched t p) object place (slice_get tys place)).objects
      → after ++ (fields_match object (place + 1) (drop (place + 1) tys) (map (matched t) (drop (place + 1) parts))).objects
      ≡ before ++ (fields_match object place (drop place tys) (map (matched t) (drop place parts))).objects
  objects_go_on lt is after_is =
      ap (λ (objects : List CExp). objects ++ (fields_match object (place + 1) (drop (place + 1) tys) (map (matched t) (drop (place + 1) parts))).objects) after_is
      ∙ sym (next_objects t before object place tys p (drop (place + 1) parts))
      ∙ ap (λ them. before ++ (fields_match object place (drop place tys) (map (matched t) them)).objects) (sym (drop_next parts place p lt is))

module _ (t : Target) (object : CExp) (place : ℕ) (tys : List Ty) (p : PatC) (before : List CExp) where
  pub no_tests : slice_get tys place ≡ None → before ≡ before ++ (field_matched (matched t p) object place (slice_get tys place)).tests
  no_tests is = sym (ap (λ ty. before ++ (field_matched (matched t p) object place ty).tests) is ∙ append-nil before)

  pub no_objects : slice_get tys place ≡ None → before ≡ before ++ (field_matched (matched t p) object place (slice_get tys place)).objects
  no_objects is = sym (ap (λ ty. before ++ (field_matched (matched t p) object place ty).objects) is ∙ append-nil before)

pub ruleset field_steps = (common_steps, next_tests, next_objects)

pub ruleset match_forms = (common_steps, append_assoc, no_types, match_var, match_any, match_word, match_con, match_tuple)
