-- The parts of a typed result have the types that their places give.
use Rattle.std.proofs.Common.{◌≡◌, List, ◌++◌, Option, Some, None, ap, sym, ◌∙◌, subst}
use Rattle.hume_base.specs.declared.types.Ty.{Ty}
use Rattle.hume_model.specs.declared.core_tree.PatC.{PatC}
use Rattle.hume_model.specs.declared.core_tree.Core.{Core}
use Rattle.typed_core.specs.declared.typed_tree.TypedExpr.{TypedExpr}
use Rattle.typed_core.specs.declared.typed_tree.TypedResult.{TypedResult, out-roll-TypedResult, roll-TypedResult}
use Rattle.typed_core.specs.declared.typed_tree.TypedResult.TheOpen.{TypedResult-F}
use Rattle.typed_core.specs.declared.typed_tree.TypedResult.TheVariants as given
use Rattle.typed_core.specs.Parts.{EachIsTyped, carried_in, carried_of}
use Rattle.typed_core.specs.ResultParts.{EachGives, arm_inners, inners, inners_of_layer, outs_at, parts_of_layer, result_parts}
use Rattle.typed_core.specs.ResultTyping.{OutsAreTyped, ResultArmsAreTyped, ResultIsTyped}
use Rattle.typed_core.proofs.PartsTyped.{at_type, bound_is}

module _ (core : Core) where
  each_out : {vars : List Ty} {outs : List (Option TypedExpr)} {tys : List Ty} → OutsAreTyped core vars outs tys
      → EachIsTyped core (outs_at vars outs tys)
  each_out OutsAreTyped.none = tt
  each_out (OutsAreTyped.star rest) = each_out rest
  each_out (OutsAreTyped.value first rest) = (first, each_out rest)

  module _ (tys : List Ty) where
    abbrev HaveTypes : List Ty → TypedResult → Type 0
    HaveTypes vars r = EachIsTyped core (result_parts core tys vars r) × EachGives core tys (inners core vars r)

    abbrev LayerHas : List Ty → TypedResult-F TypedResult → Type 0
    LayerHas vars x = EachIsTyped core (parts_of_layer core tys vars x) × EachGives core tys (inners_of_layer core vars x)

    at_layer : (vars : List Ty) (x : TypedResult-F TypedResult) (r : TypedResult) → roll-TypedResult x ≡ r → LayerHas vars x → HaveTypes vars r
    at_layer vars x r is each = subst (HaveTypes vars) is (subst (LayerHas vars) (sym (out-roll-TypedResult x)) each)

    each_arm : {vars : List Ty} {of : Ty} {arms : List (PatC × TypedResult)} → ResultArmsAreTyped core tys vars of arms
        → EachGives core tys (arm_inners core.types vars of arms)
    each_arm ResultArmsAreTyped.no_arm = tt
    each_arm {vars} (ResultArmsAreTyped.one_arm {r = r} pattern body rest) =
        (subst (λ z. ResultIsTyped core tys (vars ++ z) r) (bound_is core.types pattern) body, each_arm rest)

    -- each part has the type that its place gives
    pub result_parts_typed : {vars : List Ty} {r : TypedResult} → ResultIsTyped core tys vars r → HaveTypes vars r
    result_parts_typed {vars} (ResultIsTyped.outputs {outs = outs} are) =
        at_layer vars (TypedResult-F.Outs outs) (given.Outs outs) (given.rolls-Outs outs) (each_out are, tt)
    result_parts_typed {vars} (ResultIsTyped.choice {test = t} {when_true = a} {when_false = b} test when_true when_false) =
        at_layer vars (TypedResult-F.If t a b) (given.If t a b) (given.rolls-If t a b) ((test, tt), (when_true, (when_false, tt)))
    result_parts_typed {vars} (ResultIsTyped.alternatives of {part = e} {arms = ways} has arms) =
        at_layer vars (TypedResult-F.Case of e ways) (given.Case of e ways) (given.rolls-Case of e ways) ((has, tt), each_arm arms)
    result_parts_typed {vars} (ResultIsTyped.binding of {part = e} {body = b} has body) =
        at_layer vars (TypedResult-F.Let of e b) (given.Let of e b) (given.rolls-Let of e b) ((has, tt), (body, tt))
    result_parts_typed {vars} (ResultIsTyped.raise_alone number exn known nothing) =
        at_layer vars (TypedResult-F.Raise number None) (given.Raise number None) (given.rolls-Raise number None) (tt, tt)
    result_parts_typed {vars} (ResultIsTyped.raise_with number exn carried {part = e} known carries has) =
        at_layer vars (TypedResult-F.Raise number (Some e)) (given.Raise number (Some e)) (given.rolls-Raise number (Some e))
        ((at_type core (ap carried_of known ∙ ap carried_in carries) has, tt), tt)
