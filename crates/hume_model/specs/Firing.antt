-- Which rule of a box fires, and what it gives.
use Rattle.std.specs.Prelude.{ℕ, Bool, false, ◌==◌, List, [], Option, None, Some, if◌then◌else◌, slice_get}
use Rattle.std.specs.List.{find}
use Rattle.std.specs.Option.{option_map, option_and_then, option_to_list}
use Rattle.hume_base.specs.declared.types.Value.{Value}
use Rattle.hume_model.specs.declared.core_tree.RuleC.{RuleC}
use Rattle.hume_model.specs.declared.core_tree.HandC.{HandC}
use Rattle.hume_model.specs.declared.core_tree.BoxC.{BoxC}
use Rattle.hume_model.specs.declared.core_tree.Core.{Core}
use Rattle.hume_model.specs.declared.outcome.Outputs.{Outputs}
use Rattle.hume_model.specs.declared.outcome.Outputs.TheVariants.{Asserts, Throws}
use Rattle.hume_model.specs.declared.outcome.Firing.{Firing}
use Rattle.hume_model.specs.Results.{result_of}
use Rattle.hume_model.specs.Matching.{fits, taken_at, bound}

-- there is such a rule, and it fits
abbrev pub rule_fits : List (Option Value) → Option RuleC → Bool
rule_fits ins None = false
rule_fits ins (Some rule) = fits rule.pats ins

-- a handler's only variable, if it has one, is what the exception carries
abbrev pub handler_env : HandC → Option Value → List Value
handler_env handler carried = if handler.bound then option_to_list carried else []

-- a handler may not raise
abbrev pub outputs_or_none : Outputs → List (Option Value)
outputs_or_none (Asserts outs) = outs
outputs_or_none (Throws exn carried) = []

-- the outputs of the handler, by what the exception carries; none where there is no handler
abbrev pub handled_by : Core → Option Value → Option HandC → List (Option Value)
handled_by core carried None = []
handled_by core carried (Some handler) = outputs_or_none (result_of core (handler_env handler carried) handler.result)

-- the outputs of a rule's result, or those of the handler for the exception that it raises
abbrev pub handled : Core → List HandC → Outputs → List (Option Value)
handled core handlers (Asserts outs) = outs
handled core handlers (Throws exn carried) = handled_by core carried (find (λ (handler : HandC). handler.exn == exn) handlers)

-- what the rule of the number takes and gives
abbrev pub firing_of : Core → BoxC → ℕ → List (Option Value) → RuleC → Firing
firing_of core b number ins rule = record {
  rule = number;
  taken = taken_at rule.pats ins;
  outs = handled core b.handlers (result_of core (bound rule.pats ins) rule.result);
}

-- the first rule in the order that fits, with which inputs it takes and what it gives; or none
abbrev pub fire : Core → BoxC → List ℕ → List (Option Value) → Option Firing
fire core b order ins =
    option_and_then (λ number. option_map (firing_of core b number ins) (slice_get b.rules number))
    (find (λ number. rule_fits ins (slice_get b.rules number)) order)
