-- A call gives a value of the function's type, or raises an exception of the core.
use Rattle.std.proofs.Common.{◌≡◌, ℕ, zero, suc, true, List, [], ◌∷◌, length, Some, slice_get, sym, subst, inl, inr}
use Rattle.std.proofs.lemmas.Bool.{cases_eq, eq-eqb, ne_eqb}
use Rattle.hume_base.specs.declared.types.Ty.{Ty}
use Rattle.hume_base.specs.declared.types.Value.{Value}
use Rattle.hume_model.specs.declared.core_tree.Expr.{Expr}
use Rattle.hume_model.specs.declared.core_tree.EqC.{EqC}
use Rattle.hume_model.specs.declared.core_tree.FunC.{FunC}
use Rattle.hume_model.specs.declared.core_tree.Core.{Core}
use Rattle.hume_model.specs.Patterns.{matches_all}
use Rattle.hume_model.specs.Meaning.{Calls, eval, eval_with, call_below, first_equation}
use Rattle.hume_model.specs.Typing.{AreOf, HasType, EquationsHave, is_outcome}
use Rattle.hume_model.specs.WellFormed.{HasSoundParts}
use Rattle.hume_model.proofs.OwnExceptions.{AreRaised, own_raised}
use Rattle.hume_model.proofs.PatternTypes.{patterns_typed}
use Rattle.hume_model.proofs.ExpressionTypes.{matched_arm, typed}

module _ (core : Core) (sound : HasSoundParts core) where
  pub raised : AreRaised core
  raised = own_raised core sound.exceptions

  -- what a table of calls gives is of the functions' types
  abbrev pub AreTyped : Calls → Type 0
  AreTyped call = (f : ℕ) (function : FunC) → slice_get core.funs f ≡ Some function → (args : List Value)
      → AreOf core.types function.params args → is_outcome core function.gives (call f args) ≡ true

  pub equations_typed : (call : Calls) → AreTyped call → (function : FunC) (equations : List EqC) → EquationsHave core function equations
      → (args : List Value) → AreOf core.types function.params args → is_outcome core function.gives (first_equation (eval_with call) equations args) ≡ true
  equations_typed call called function [] have args is = raised.no_case
  equations_typed call called function (equation ∷ equations) (EquationsHave.one vars pats body rest) args is =
      matched_arm core raised sound.holds call called function.gives (matches_all equation.pats args) _ _
      (λ env found. typed core raised sound.holds call called body env (patterns_typed core.types sound.holds pats args env is found))
      (equations_typed call called function equations rest args is)

  pub calls_typed : (bound : ℕ) → AreTyped (call_below core bound)
  unfolding call_below
  calls_typed zero f function found args is = raised.no_case
  calls_typed (suc bound) f function found args is = elim (cases_eq f bound) [
    | inl same ↦ rw (eq-eqb f bound same, ← same, found) (equations_typed (call_below core f) (subst (λ b. AreTyped (call_below core b)) (sym same) (calls_typed bound)) function function.equations (sound.functions f function found) args is)
    | inr other ↦ rw (ne_eqb f bound other) (calls_typed bound f function found args is)
  ]

  pub eval_typed : {vars : List Ty} {e : Expr} {ty : Ty} → HasType core vars e ty → (env : List Value) → AreOf core.types vars env
      → is_outcome core ty (eval core env e) ≡ true
  eval_typed has env is =
      typed core raised sound.holds (call_below core (length core.funs)) (calls_typed (length core.funs)) has env is
