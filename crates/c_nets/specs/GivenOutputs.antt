-- Whether a box gives all its outputs whenever it gives some.
use Rattle.std.specs.Prelude.{◌&&◌, Bool, true, List, is_some}
use Rattle.std.specs.List.{list_all}
use Rattle.typed_core.specs.declared.typed_tree.TypedResult.{TypedResult, fold-TypedResult}
use Rattle.typed_core.specs.declared.typed_tree.TypedResult.TheOpen.{TypedResult-F}
use Rattle.typed_core.specs.declared.typed_tree.TypedRule.{TypedRule}
use Rattle.typed_core.specs.declared.typed_tree.TypedHandler.{TypedHandler}

-- one level of a result, with whether its parts give all outputs
abbrev pub gives_step : TypedResult-F Bool → Bool
gives_step (TypedResult-F.Outs outs) = list_all is_some outs
gives_step (TypedResult-F.If test when_true when_false) = when_true && when_false
gives_step (TypedResult-F.Case of part arms) = list_all (λ arm. arm.1) arms
gives_step (TypedResult-F.Let of part body) = body
gives_step (TypedResult-F.Raise exn part) = true

-- whether the result gives a value to each output, where it doesn't raise
abbrev pub gives_all : TypedResult → Bool
gives_all = fold-TypedResult Bool gives_step

-- whether each result of the rules and of the handlers does
abbrev pub all_are_given : List TypedRule → List TypedHandler → Bool
all_are_given rules handlers = list_all (λ rule. gives_all rule.result) rules && list_all (λ handler. gives_all handler.result) handlers
