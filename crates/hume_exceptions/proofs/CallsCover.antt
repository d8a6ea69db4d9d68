-- Calls raise only what the functions' bodies may raise.
use Rattle.std.proofs.Common.{◌≡◌, ℕ, zero, suc, ◌==◌, not, ◌&&◌, ◌||◌, Bool, true, false, List, [], ◌∷◌, length, Option, Some, None, slice_get, refl, ap, sym, ◌∙◌, subst, inl, inr}
use Rattle.std.proofs.lemmas.Bool.{and_parts, cases_eq, eq-eqb, ne_eqb}
use Rattle.std.specs.Option.{is_some}
use Rattle.std.specs.List.{list_any}
use Rattle.hume_base.specs.declared.types.Ty.{Ty}
use Rattle.hume_base.specs.declared.types.Value.{Value}
use Rattle.hume_base.specs.Values.{is_value}
use Rattle.hume_model.specs.declared.core_tree.PatC.{PatC}
use Rattle.hume_model.specs.declared.core_tree.Expr.{Expr}
use Rattle.hume_model.specs.declared.core_tree.EqC.{EqC}
use Rattle.hume_model.specs.declared.core_tree.FunC.{FunC}
use Rattle.hume_model.specs.declared.core_tree.Core.{Core}
use Rattle.hume_model.specs.declared.exceptions.TheConstants.{NO_CASE}
use Rattle.hume_model.specs.Patterns.{matches, matches_all, both_match}
use Rattle.hume_model.specs.Meaning.{Calls, eval, eval_with, call_below, call_of, first_equation}
use Rattle.hume_model.specs.Typing.{AreOf, HasType, ArePatterns, IsPattern, EquationsHave}
use Rattle.hume_model.specs.WellFormed.{HasSoundParts}
use Rattle.hume_model.specs.Completeness.{is_irrefutable_equation, last_passes, first_patterns, are_complete_alone, are_complete_equations}
use Rattle.hume_model.specs.Raising.{raises_with, function_raises, raises_below, may_raise}
use Rattle.hume_model.proofs.PatternTypes.{patterns_typed}
use Rattle.hume_model.proofs.CallTypes.{raised, AreTyped, calls_typed}
use Rattle.hume_exceptions.specs.Matched.{ArePatternsOf, is_matched}
use Rattle.hume_exceptions.proofs.Completes.{or_left, or_right, either_way, complete_matched, all_surely_match}
use Rattle.hume_exceptions.proofs.Covering.{Covers, covers, own_covers, weaker, exn_of, match_covers, or_assoc, none_left, incomplete}

-- the arguments match some equation
abbrev are_matched : List EqC → List Value → Bool
are_matched equations args = list_any (λ (equation : EqC). is_some (matches_all equation.pats args)) equations

in_both : (m : Option (List Value)) → is_some m ≡ true → is_some (both_match m (Some [])) ≡ true
in_both None h = cc
in_both (Some vs) h = refl

single : (p : PatC) (v : Value) → is_some (matches p v) ≡ true → is_some (matches_all (p ∷ []) (v ∷ [])) ≡ true
single p v h = in_both (matches p v) h

first_is : (equation : EqC) (equations : List EqC) (p : PatC) → equation.pats ≡ p ∷ [] → first_patterns (equation ∷ equations) ≡ p ∷ first_patterns equations
first_is equation equations p is = let first : slice_get equation.pats 0 ≡ Some p = ap (λ ps. slice_get ps 0) is in rw first refl

module _ (core : Core) (sound : HasSoundParts core) where
  last_all_matched : (function : FunC) (equations : List EqC) → EquationsHave core function equations → last_passes is_irrefutable_equation equations ≡ true
      → (args : List Value) → AreOf core.types function.params args → are_matched equations args ≡ true
  last_all_matched function [] have h args is = cc
  last_all_matched function (equation ∷ []) (EquationsHave.one vars pats body rest) h args is = or_left _ _ (all_surely_match core.types sound.holds pats h args is)
  last_all_matched function (equation ∷ other ∷ equations) (EquationsHave.one vars pats body rest) h args is =
      or_right (is_some (matches_all equation.pats args)) _ (last_all_matched function (other ∷ equations) rest h args is)

  one_pattern : {t : Ty} {ps : List PatC} {vars : List Ty} → ArePatterns core.types (t ∷ []) ps vars → (p : PatC) × (us : List Ty) × (ps ≡ p ∷ []) × IsPattern core.types t p us
  one_pattern (ArePatterns.one {p = p} {vars = us} first ArePatterns.none) = (p, us, refl, first)

  -- with one parameter, the equations' first patterns are those for its values
  alone_are : (function : FunC) (t : Ty) → function.params ≡ t ∷ [] → (equations : List EqC) → EquationsHave core function equations → ArePatternsOf core.types t (first_patterns equations)
  alone_are function t one [] EquationsHave.none = ArePatternsOf.none
  alone_are function t one (equation ∷ equations) (EquationsHave.one vars pats body rest) =
      let k = one_pattern (subst (λ ts. ArePatterns core.types ts equation.pats vars) one pats) in
      subst (λ ps. ArePatternsOf core.types t ps) (sym (first_is equation equations k.0 k.2)) (ArePatternsOf.one k.1 k.3 (alone_are function t one equations rest))

  alone_matched : (function : FunC) (t : Ty) → function.params ≡ t ∷ [] → (equations : List EqC) → EquationsHave core function equations → (v : Value)
      → is_matched (first_patterns equations) v ≡ true → are_matched equations (v ∷ []) ≡ true
  alone_matched function t one [] EquationsHave.none v h = h
  alone_matched function t one (equation ∷ equations) (EquationsHave.one vars pats body rest) v h =
      let k = one_pattern (subst (λ ts. ArePatterns core.types ts equation.pats vars) one pats) in
      let first : (is_some (matches k.0 v) || is_matched (first_patterns equations) v) ≡ true = subst (λ ps. is_matched ps v ≡ true) (first_is equation equations k.0 k.2) h in
      elim (either_way (is_some (matches k.0 v)) (is_matched (first_patterns equations) v) first) [
        | inl here ↦ or_left _ _ (ap (λ ps. is_some (matches_all ps (v ∷ []))) k.2 ∙ single k.0 v here)
        | inr later ↦ or_right (is_some (matches_all equation.pats (v ∷ []))) _ (alone_matched function t one equations rest v later)
      ]

  parameter_matched : (function : FunC) (ts : List Ty) → function.params ≡ ts → EquationsHave core function function.equations → are_complete_alone core.types ts function.equations ≡ true
      → (args : List Value) → AreOf core.types ts args → are_matched function.equations args ≡ true
  parameter_matched function [] e have h args is = cc
  parameter_matched function (t ∷ u ∷ ts) e have h args is = cc
  parameter_matched function (t ∷ []) e have h [] is = cc
  parameter_matched function (t ∷ []) e have h (v ∷ w ∷ args) is = let x : false ≡ true = (and_parts (is_value core.types t v) false is).1 in cc
  parameter_matched function (t ∷ []) e have h (v ∷ []) is =
      alone_matched function t e function.equations have v
      (complete_matched core.types sound.holds t (first_patterns function.equations) (alone_are function t e function.equations have) h v (and_parts _ _ is).0)

  equations_matched : (function : FunC) → EquationsHave core function function.equations → are_complete_equations core.types function.params function.equations ≡ true
      → (args : List Value) → AreOf core.types function.params args → are_matched function.equations args ≡ true
  equations_matched function have h args is = elim (either_way (last_passes is_irrefutable_equation function.equations) (are_complete_alone core.types function.params function.equations) h) [
    | inl last ↦ last_all_matched function function.equations have last args is
    | inr one ↦ parameter_matched function function.params refl have one args is
  ]

  module _ (exn : ℕ) where
    abbrev AreCovered : Calls → (ℕ → Bool) → Type 0
    AreCovered call raising = (f : ℕ) (function : FunC) → slice_get core.funs f ≡ Some function → (args : List Value) → AreOf core.types function.params args → Covers exn (raising f) (call f args)

    abbrev some_bodies : (ℕ → Bool) → List EqC → Bool
    some_bodies raising equations = list_any (λ (equation : EqC). raises_with core.types raising exn equation.body) equations

    equations_cover : (call : Calls) → AreTyped core sound call → (raising : ℕ → Bool) → AreCovered call raising → (function : FunC) (equations : List EqC) → EquationsHave core function equations
        → (args : List Value) → AreOf core.types function.params args → (left : Bool) → (are_matched equations args ≡ false → left ≡ true)
        → Covers exn (some_bodies raising equations || ((exn == NO_CASE) && left)) (first_equation (eval_with call) equations args)
    equations_cover call called raising covered function [] EquationsHave.none args is left go = own_covers exn NO_CASE left (go refl)
    equations_cover call called raising covered function (equation ∷ equations) (EquationsHave.one vars pats body rest) args is left go =
        weaker exn _ _ _ (or_assoc (raises_with core.types raising exn equation.body) (some_bodies raising equations) ((exn == NO_CASE) && left))
        (match_covers exn (matches_all equation.pats args) _ _ _ (some_bodies raising equations || ((exn == NO_CASE) && left))
        (λ env found. covers core (raised core sound) sound.holds call called exn raising covered body env (patterns_typed core.types sound.holds pats args env is found))
        (λ none. equations_cover call called raising covered function equations rest args is left (λ h. go (none_left (matches_all equation.pats args) _ none h))))

    function_covers : (call : Calls) → AreTyped core sound call → (raising : ℕ → Bool) → AreCovered call raising → (function : FunC) → EquationsHave core function function.equations
        → (args : List Value) → AreOf core.types function.params args
        → Covers exn (function_raises core.types (raises_with core.types raising exn) exn (Some function)) (call_of (eval_with call) (Some function) args)
    function_covers call called raising covered function have args is =
        let complete = are_complete_equations core.types function.params function.equations in
        equations_cover call called raising covered function function.equations have args is (not complete)
        (incomplete complete (are_matched function.equations args) (λ h. equations_matched function have h args is))

    calls_cover : (bound : ℕ) → AreCovered (call_below core bound) (raises_below core bound exn)
    unfolding call_below raises_below
    calls_cover zero f function found args is = record { by = λ k e. eq-eqb exn NO_CASE (sym (ap exn_of e)) }
    calls_cover (suc bound) f function found args is = elim (cases_eq f bound) [
      | inl same ↦ rw (eq-eqb f bound same, ← same, found) (function_covers (call_below core f) (calls_typed core sound f) (raises_below core f exn)
          (subst (λ b. AreCovered (call_below core b) (raises_below core b exn)) (sym same) (calls_cover bound)) function (sound.functions f function found) args is)
      | inr other ↦ rw (ne_eqb f bound other) (calls_cover bound f function found args is)
    ]

    pub eval_covers : {vars : List Ty} {e : Expr} {t : Ty} → HasType core vars e t → (env : List Value) → AreOf core.types vars env → Covers exn (may_raise core exn e) (eval core env e)
    eval_covers has env is =
        let n = length core.funs in
        covers core (raised core sound) sound.holds (call_below core n) (calls_typed core sound n) exn (raises_below core n exn) (calls_cover n) has env is
