-- Steps of the loops over equations and over their patterns, and what a look-up at a place gives.
use Rattle.std.proofs.Common.{◌≡◌, ℕ, suc, ◌<◌, ◌≤◌, ◌-◌, Bool, false, List, [], ◌∷◌, ◌++◌, length, get_or, Option, Some, None, slice_get, refl, ap, sym, ◌∙◌, arith, append_assoc, append-nil}
use Rattle.std.proofs.lemmas.Grind.{common_steps}
use Rattle.std.proofs.lemmas.Option.{slice_get_past, slice_get_read}
use Rattle.hume_base.specs.declared.types.Ty.{Ty}
use Rattle.hume_model.specs.declared.core_tree.PatC.{PatC}
use Rattle.hume_model.specs.Completeness.{last_passes}
use Rattle.c_tree.specs.declared.tree.CExp.{CExp}
use Rattle.c_tree.specs.declared.tree.CParameter.{CParameter}
use Rattle.c_analysis.specs.Targets.{Target}
use Rattle.c_expressions.specs.Patterns.{matched}
use Rattle.c_expressions.proofs.WaysForms.{last_way}
use Rattle.c_functions.specs.Functions.{argument_match, parameter_if, parameter_object}

pub ruleset match_steps = (common_steps, append_assoc, append-nil)

pub ruleset equation_steps = (common_steps, last_way)

-- the test of an element, where there is one
abbrev pub passes : {X : Type 0} → (X → Bool) → Option X → Bool
passes test None = false
passes test (Some x) = test x

pub last_at : {X : Type 0} (test : X → Bool) (xs : List X) → passes test (slice_get xs (length xs - 1)) ≡ last_passes test xs
last_at test [] = refl
last_at test (x ∷ []) = refl
last_at test (x ∷ y ∷ more) =
    let long : length (x ∷ y ∷ more) - 1 ≡ suc (length more) = omega arith in
    let less : length more ≡ length (y ∷ more) - 1 = omega arith in
    ap (λ (n : ℕ). passes test (slice_get (x ∷ y ∷ more) n)) long ∙ ap (λ (n : ℕ). passes test (slice_get (y ∷ more) n)) less ∙ last_at test (y ∷ more)

-- the argument of a place, where there is a parameter and where there is none
module _ (t : Target) (params : List Ty) (place : ℕ) (pattern : PatC) where
  pub argument_is : (ty : Ty) (object : CExp) → place < length params → ty ≡ get_or params place ty → object ≡ parameter_object t ty place
      → matched t pattern ty object ≡ argument_match t place (slice_get params place) pattern
  argument_is ty object lt is object_is =
      ap (matched t pattern ty) object_is
      ∙ ap (λ (told : Option Ty). argument_match t place told pattern) (sym (slice_get_read params (length params) place ty refl lt is))

  pub no_tests : (before : List CExp) → length params ≤ place → before ≡ before ++ (argument_match t place (slice_get params place) pattern).tests
  no_tests before past =
      sym (ap (λ (told : Option Ty). before ++ (argument_match t place told pattern).tests) (slice_get_past params place past) ∙ append-nil before)

  pub no_objects : (before : List CExp) → length params ≤ place → before ≡ before ++ (argument_match t place (slice_get params place) pattern).objects
  no_objects before past =
      sym (ap (λ (told : Option Ty). before ++ (argument_match t place told pattern).objects) (slice_get_past params place past) ∙ append-nil before)

-- the parameter of a place, where it is told whether it is used and where it isn't
module _ (t : Target) (used : List Bool) (place : ℕ) (ty : Ty) where
  pub told_parameter : (told : Bool) → place < length used → told ≡ get_or used place told
      → parameter_if t place ty (Some told) ≡ parameter_if t place ty (slice_get used place)
  told_parameter told lt is = ap (parameter_if t place ty) (sym (slice_get_read used (length used) place told refl lt is))

  pub untold_parameter : (before : List CParameter) → length used ≤ place → before ≡ before ++ parameter_if t place ty (slice_get used place)
  untold_parameter before past =
      sym (ap (λ (told : Option Bool). before ++ parameter_if t place ty told) (slice_get_past used place past) ∙ append-nil before)
