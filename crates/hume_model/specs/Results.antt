-- What the result of a rule or a handler comes to, by the values of its variables.
use Rattle.std.specs.Prelude.{◌==◌, List, [], ◌∷◌, ◌++◌, map, None, if◌then◌else◌}
use Rattle.std.specs.Option.{option_map}
use Rattle.hume_base.specs.declared.types.Value.{Value}
use Rattle.hume_model.specs.declared.core_tree.PatC.{PatC}
use Rattle.hume_model.specs.declared.core_tree.Expr.{Expr}
use Rattle.hume_model.specs.declared.core_tree.Res.{Res, fold-Res}
use Rattle.hume_model.specs.declared.core_tree.Res.TheOpen.{Res-F}
use Rattle.hume_model.specs.declared.core_tree.Core.{Core}
use Rattle.hume_model.specs.declared.exceptions.TheConstants.{NO_CASE}
use Rattle.hume_model.specs.declared.outcome.Outputs.{Outputs}
use Rattle.hume_model.specs.declared.outcome.Outputs.TheVariants.{Throws}
use Rattle.hume_model.specs.Outcomes.{Meaning, on_match, raised, then_outputs, outs_in_order, thrown}
use Rattle.hume_base.specs.Flat.{word_of_value}
use Rattle.hume_model.specs.Patterns.{matches}
use Rattle.hume_model.specs.Meaning.{eval}

-- what a result comes to, by the values of its variables
abbrev pub ResultMeaning : Type 0
ResultMeaning = List Value → Outputs

-- the first alternative whose pattern the value matches, with the pattern's variables after the others
abbrev pub first_result : List (PatC × ResultMeaning) → Value → ResultMeaning
first_result [] value env = Throws NO_CASE None
first_result (arm ∷ arms) value env = on_match (matches arm.0 value) (λ values. arm.1 (env ++ values)) (first_result arms value env)

-- one level of a result, with what its parts come to in their places
abbrev pub result_step : (Expr → Meaning) → Res-F ResultMeaning → ResultMeaning
result_step meaning (Res-F.Outs outs) env = outs_in_order (map (option_map meaning) outs) env
result_step meaning (Res-F.If test when_true when_false) env =
    then_outputs (meaning test env) (λ v. if word_of_value v == 0 then when_false env else when_true env)
result_step meaning (Res-F.Case part forms arms) env = then_outputs (meaning part env) (λ v. first_result arms v env)
result_step meaning (Res-F.Let part body) env = then_outputs (meaning part env) (λ v. body (env ++ v ∷ []))
result_step meaning (Res-F.Raise exn part) env = thrown (raised exn (option_map meaning part) env)

-- what an expression comes to in the core
abbrev pub meaning_in : Core → Expr → Meaning
meaning_in core e env = eval core env e

-- the outputs of a result, or the exception that is raised
abbrev pub result_of : Core → List Value → Res → Outputs
result_of core env res = fold-Res ResultMeaning (result_step (meaning_in core)) res env
