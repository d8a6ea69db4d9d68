-- Rules in which a call is unfolded, by the number of their variables.
use Rattle.std.specs.Prelude.{ℕ, Option, Some, None, if◌then◌else◌}
use Rattle.std.specs.Option.{option_map}
use Rattle.hume_model.specs.declared.core_tree.Res.{Res}
use Rattle.hume_model.specs.declared.core_tree.RuleC.{RuleC}
use Rattle.hume_model.specs.declared.core_tree.Core.{Core}
use Rattle.calculus_laws.specs.declared.step.CalcError.{CalcError}
use Rattle.calculus_laws.specs.declared.step.CalcError.TheVariants.{CannotUnfold}
use Rattle.calculus_laws.specs.Unfolding.{has_room}
use Rattle.calculus_unfolding.specs.inner.Changes.{result_changed}

-- the rule with another result
abbrev pub with_result : RuleC → Res → RuleC
with_result rule result = record rule { result = result }

-- the rule with a call unfolded, if there is one
abbrev pub rule_changed : Core → ℕ → RuleC → Option RuleC
rule_changed core scope rule = option_map (with_result rule) (result_changed core scope rule.result)

-- a result may not be unfolded where there is no such call in it, or where it would be too deep or have too many parts
abbrev pub result_refusal : Option Res → Option CalcError
result_refusal None = Some CannotUnfold
result_refusal (Some new) = if has_room new then None else Some CannotUnfold
