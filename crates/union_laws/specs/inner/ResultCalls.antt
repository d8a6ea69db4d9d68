-- Which functions a result calls.
use Rattle.std.specs.Prelude.{ℕ, ◌&&◌, Bool, true, Option}
use Rattle.std.specs.List.{list_all}
use Rattle.std.specs.Option.{option_map}
use Rattle.hume_model.specs.declared.core_tree.PatC.{PatC}
use Rattle.hume_model.specs.declared.core_tree.Expr.{Expr}
use Rattle.hume_model.specs.declared.core_tree.Res.{Res, fold-Res}
use Rattle.hume_model.specs.declared.core_tree.Res.TheOpen.{Res-F}
use Rattle.hume_model.specs.Calls.{calls_below, if_there}

-- an expression, if there is one, calls only functions of numbers below the bound
abbrev pub out_calls : ℕ → Option Expr → Bool
out_calls bound out = if_there (option_map (calls_below bound) out)

-- the expressions of one level of a result do
abbrev pub known_in : {X : Type 0} → ℕ → Res-F X → Bool
known_in bound (Res-F.Outs outs) = list_all (out_calls bound) outs
known_in bound (Res-F.If test when_true when_false) = calls_below bound test
known_in bound (Res-F.Case part forms arms) = calls_below bound part
known_in bound (Res-F.Let part body) = calls_below bound part
known_in bound (Res-F.Raise exn part) = out_calls bound part

-- its parts do
abbrev pub parts_known : Res-F Bool → Bool
parts_known (Res-F.Outs outs) = true
parts_known (Res-F.If test when_true when_false) = when_true && when_false
parts_known (Res-F.Case part forms arms) = list_all (λ (arm : PatC × Bool). arm.1) arms
parts_known (Res-F.Let part body) = body
parts_known (Res-F.Raise exn part) = true

-- one level of a result, with whether its parts do
abbrev pub result_calls_step : ℕ → Res-F Bool → Bool
result_calls_step bound layer = known_in bound layer && parts_known layer

-- the result calls only functions of numbers below the bound
abbrev pub result_calls : ℕ → Res → Bool
result_calls bound = fold-Res Bool (result_calls_step bound)
