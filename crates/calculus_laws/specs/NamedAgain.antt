-- What a rule is after its output was named and the call unfolded again.
use Rattle.std.specs.Prelude.{[], ◌∷◌, length, map, replicate, Some}
use Rattle.std.specs.List.{range_with_len}
use Rattle.hume_base.specs.declared.types.Types.{Types}
use Rattle.hume_model.specs.declared.core_tree.PatC.TheVariants as pat
use Rattle.hume_model.specs.declared.core_tree.Expr.{Expr}
use Rattle.hume_model.specs.declared.core_tree.Expr.TheVariants as expr
use Rattle.hume_model.specs.declared.core_tree.Res.TheVariants as res
use Rattle.hume_model.specs.declared.core_tree.RuleC.{RuleC}
use Rattle.hume_model.specs.declared.core_tree.BoxC.{BoxC}
use Rattle.calculus_laws.specs.Naming.{OnlyOutput, variables}
use Rattle.calculus_laws.specs.Unfolding.{equation_unfolded}

-- the output with a `let` of each variable of the rule around it
abbrev pub output_again : Types → BoxC → OnlyOutput → Expr
output_again types b output =
    let count = length (variables types b output.rule) in
    equation_unfolded (record { pats = replicate count pat.Var; body = output.body }) (map expr.Var (range_with_len 0 count)) count

-- the rule with that output
abbrev pub rule_again : Types → BoxC → OnlyOutput → RuleC
rule_again types b output = record output.rule { result = res.Outs (Some (output_again types b output) ∷ []) }
