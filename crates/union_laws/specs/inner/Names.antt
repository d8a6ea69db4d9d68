-- Which functions an expression and a result call, and which forms their `case`s tell apart.
use Rattle.std.specs.Prelude.{ℕ, nat_lt, ◌&&◌, Bool, true, Option}
use Rattle.std.specs.List.{list_all}
use Rattle.std.specs.Option.{option_map}
use Rattle.hume_model.specs.declared.core_tree.Forms.{Forms}
use Rattle.hume_model.specs.declared.core_tree.PatC.{PatC}
use Rattle.hume_model.specs.declared.core_tree.Expr.{Expr, fold-Expr}
use Rattle.hume_model.specs.declared.core_tree.Expr.TheOpen.{Expr-F}
use Rattle.hume_model.specs.declared.core_tree.Res.{Res, fold-Res}
use Rattle.hume_model.specs.declared.core_tree.Res.TheOpen.{Res-F}
use Rattle.hume_model.specs.Calls.{all_true, if_there}
use Rattle.union_laws.specs.inner.ResultCalls.{parts_known}

-- one level of an expression, with whether its parts call functions of numbers below the bound and tell forms apart that there are
abbrev pub names_step : ℕ → (Forms → Bool) → Expr-F Bool → Bool
names_step bound is_there (Expr-F.Word word) = true
names_step bound is_there (Expr-F.Var number) = true
names_step bound is_there (Expr-F.Con place parts) = all_true parts
names_step bound is_there (Expr-F.Tuple parts) = all_true parts
names_step bound is_there (Expr-F.Vect parts) = all_true parts
names_step bound is_there (Expr-F.Prim op ty parts) = all_true parts
names_step bound is_there (Expr-F.Index count vector place) = vector && place
names_step bound is_there (Expr-F.Update count vector place item) = vector && (place && item)
names_step bound is_there (Expr-F.If test when_true when_false) = test && (when_true && when_false)
names_step bound is_there (Expr-F.Case part forms arms) = is_there forms && (part && list_all (λ (arm : PatC × Bool). arm.1) arms)
names_step bound is_there (Expr-F.Let part body) = part && body
names_step bound is_there (Expr-F.Call function parts) = nat_lt function bound && all_true parts
names_step bound is_there (Expr-F.Raise exn part) = if_there part

-- the expression does
abbrev pub names_below : ℕ → (Forms → Bool) → Expr → Bool
names_below bound is_there = fold-Expr Bool (names_step bound is_there)

-- an expression, if there is one, does
abbrev pub out_names : ℕ → (Forms → Bool) → Option Expr → Bool
out_names bound is_there out = if_there (option_map (names_below bound is_there) out)

-- the expressions of one level of a result do, and the level itself
abbrev pub named_in : {X : Type 0} → ℕ → (Forms → Bool) → Res-F X → Bool
named_in bound is_there (Res-F.Outs outs) = list_all (out_names bound is_there) outs
named_in bound is_there (Res-F.If test when_true when_false) = names_below bound is_there test
named_in bound is_there (Res-F.Case part forms arms) = is_there forms && names_below bound is_there part
named_in bound is_there (Res-F.Let part body) = names_below bound is_there part
named_in bound is_there (Res-F.Raise exn part) = out_names bound is_there part

-- one level of a result, with whether its parts do
abbrev pub result_names_step : ℕ → (Forms → Bool) → Res-F Bool → Bool
result_names_step bound is_there layer = named_in bound is_there layer && parts_known layer

-- the result does
abbrev pub result_names : ℕ → (Forms → Bool) → Res → Bool
result_names bound is_there = fold-Res Bool (result_names_step bound is_there)
