-- What a typed result erases to gives its outputs.
use Rattle.std.proofs.Common.{◌≡◌, List, map, Option, Some, None, refl, sym, subst}
use Rattle.std.specs.Option.{option_map}
use Rattle.hume_base.specs.declared.types.Ty.{Ty}
use Rattle.hume_model.specs.declared.core_tree.PatC.{PatC}
use Rattle.hume_model.specs.declared.core_tree.Res.{Res}
use Rattle.hume_model.specs.declared.core_tree.BoxC.{BoxC}
use Rattle.hume_model.specs.declared.core_tree.Core.{Core}
use Rattle.hume_model.specs.BoxTyping.{HandlerIsTyped, RuleIsTyped}
use Rattle.hume_model.specs.ResultTyping.{ArmsGiveOutputs, GivesOutputs, OutsHave}
use Rattle.typed_core.specs.declared.typed_tree.TypedExpr.{TypedExpr}
use Rattle.typed_core.specs.declared.typed_tree.TypedResult.{TypedResult}
use Rattle.typed_core.specs.declared.typed_tree.TypedRule.{TypedRule}
use Rattle.typed_core.specs.declared.typed_tree.TypedHandler.{TypedHandler}
use Rattle.typed_core.specs.Declarations.{TypedHandlerFits, TypedRuleFits}
use Rattle.typed_core.specs.Erasing.{erased, erased_handler, erased_result, erased_rule}
use Rattle.typed_core.specs.ResultTyping.{OutsAreTyped, ResultArmsAreTyped, ResultIsTyped}
use Rattle.typed_core.proofs.Erased as form
use Rattle.typed_core.proofs.Typed.{has_type}

module _ (core : Core) where
  outs_have : {vars : List Ty} {outs : List (Option TypedExpr)} {tys : List Ty} → OutsAreTyped core vars outs tys
      → OutsHave core vars (map (option_map erased) outs) tys
  outs_have OutsAreTyped.none = OutsHave.none
  outs_have (OutsAreTyped.star rest) = OutsHave.star (outs_have rest)
  outs_have (OutsAreTyped.value first rest) = OutsHave.value (has_type core first) (outs_have rest)

  module _ (tys : List Ty) where
    -- a result that is equal to one that gives the outputs gives them
    gives : {vars : List Ty} {r d : Res} → r ≡ d → GivesOutputs core tys vars d → GivesOutputs core tys vars r
    gives {vars} is of = subst (λ z. GivesOutputs core tys vars z) (sym is) of

    mutual
      pub gives_outputs : {vars : List Ty} {r : TypedResult} → ResultIsTyped core tys vars r → GivesOutputs core tys vars (erased_result r)
      gives_outputs (ResultIsTyped.outputs {outs = outs} each) = gives (form.result_outs outs) (GivesOutputs.outputs (outs_have each))
      gives_outputs (ResultIsTyped.choice {test = t} {when_true = a} {when_false = b} test when_true when_false) =
          gives (form.result_if t a b) (GivesOutputs.choice (has_type core test) (gives_outputs when_true) (gives_outputs when_false))
      gives_outputs (ResultIsTyped.alternatives of {part = e} {arms = ways} part arms) =
          gives (form.result_case of e ways)
          (GivesOutputs.alternatives of (has_type core part) refl (arms_give_outputs arms))
      gives_outputs (ResultIsTyped.binding of {part = e} {body = b} part body) =
          gives (form.result_let of e b) (GivesOutputs.binding of (has_type core part) (gives_outputs body))
      gives_outputs (ResultIsTyped.raise_alone number exn known nothing) =
          gives (form.result_raise number None) (GivesOutputs.raise_alone number exn known nothing)
      gives_outputs (ResultIsTyped.raise_with number exn carried {part = e} known carries part) =
          gives (form.result_raise number (Some e)) (GivesOutputs.raise_with number exn carried known carries (has_type core part))

      arms_give_outputs : {vars : List Ty} {of : Ty} {arms : List (PatC × TypedResult)} → ResultArmsAreTyped core tys vars of arms
          → ArmsGiveOutputs core tys vars of (map form.result_arm_erased arms)
      arms_give_outputs ResultArmsAreTyped.no_arm = ArmsGiveOutputs.no_arm
      arms_give_outputs (ResultArmsAreTyped.one_arm pattern body rest) = ArmsGiveOutputs.one_arm pattern (gives_outputs body) (arms_give_outputs rest)

  pub rule_typed : (b : BoxC) (rule : TypedRule) → TypedRuleFits core b rule → RuleIsTyped core b (erased_rule rule)
  rule_typed b rule fits = record { positions = fits.positions; outputs = gives_outputs _ fits.outputs }

  pub handler_typed : (b : BoxC) (handler : TypedHandler) → TypedHandlerFits core b handler → HandlerIsTyped core b (erased_handler handler)
  handler_typed b handler fits = record { is = fits.is; outputs = gives_outputs _ fits.outputs }
