-- When a box has a handler for each exception that its rules raise.
use Rattle.std.specs.Prelude.{◌≡◌, ◌==◌, ℕ, true, List, Option, Some, slice_get}
use Rattle.std.specs.List.{find}
use Rattle.hume_base.specs.declared.types.Value.{Value}
use Rattle.hume_model.specs.declared.core_tree.RuleC.{RuleC}
use Rattle.hume_model.specs.declared.core_tree.HandC.{HandC}
use Rattle.hume_model.specs.declared.core_tree.BoxC.{BoxC}
use Rattle.hume_model.specs.declared.core_tree.Core.{Core}
use Rattle.hume_model.specs.declared.outcome.Outputs.TheVariants.{Asserts, Throws}
use Rattle.hume_model.specs.Matching.{fits, bound}
use Rattle.hume_model.specs.Results.{result_of}
use Rattle.hume_model.specs.ResultTyping.{are_outputs}
use Rattle.hume_model.specs.Firing.{handler_env}
use Rattle.hume_model.specs.BoxTyping.{port_types}

-- the box has a handler for the exception, and it gives outputs and raises nothing
pub record IsHandled (core : Core) (b : BoxC) (exn : ℕ) (carried : Option Value) : Type 0 where
  pub handler : HandC
  pub found : find (λ (handler : HandC). handler.exn == exn) b.handlers ≡ Some handler
  pub outs : List (Option Value)
  pub gives : result_of core (handler_env handler carried) handler.result ≡ Asserts outs

-- whatever values of their types come to its inputs, each exception that the result of a rule then raises is handled
abbrev pub HandlesAll : Core → BoxC → Type 0
HandlesAll core b = (number : ℕ) (rule : RuleC) → slice_get b.rules number ≡ Some rule
    → (ins : List (Option Value)) → are_outputs core.types (port_types b.ins) ins ≡ true → fits rule.pats ins ≡ true
    → (exn : ℕ) (carried : Option Value) → result_of core (bound rule.pats ins) rule.result ≡ Throws exn carried → IsHandled core b exn carried
