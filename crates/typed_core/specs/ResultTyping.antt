-- Which typed results of rules and handlers give outputs of which types, by the types of their variables.
use Rattle.std.specs.Prelude.{◌≡◌, ℕ, List, [], ◌∷◌, ◌++◌, Option, Some, None, slice_get}
use Rattle.hume_base.specs.declared.types.Ty.{Ty}
use Rattle.hume_base.specs.declared.types.Ty.TheVariants as shape
use Rattle.hume_model.specs.declared.core_tree.PatC.{PatC}
use Rattle.hume_model.specs.declared.core_tree.ExnDef.{ExnDef}
use Rattle.hume_model.specs.declared.core_tree.Core.{Core}
use Rattle.hume_model.specs.Typing.{IsPattern}
use Rattle.typed_core.specs.declared.typed_tree.TypedExpr.{TypedExpr}
use Rattle.typed_core.specs.declared.typed_tree.TypedResult.{TypedResult}
use Rattle.typed_core.specs.declared.typed_tree.TypedResult.TheVariants as typed
use Rattle.typed_core.specs.Typing.{IsTyped}

-- an output for each type: an expression of the type, or none
pub data OutsAreTyped (core : Core) (vars : List Ty) : List (Option TypedExpr) → List Ty → Type 0 where
  none : OutsAreTyped core vars [] []
  star : {ty : Ty} {outs : List (Option TypedExpr)} {tys : List Ty} → OutsAreTyped core vars outs tys
      → OutsAreTyped core vars (None ∷ outs) (ty ∷ tys)
  value : {e : TypedExpr} {ty : Ty} {outs : List (Option TypedExpr)} {tys : List Ty} → IsTyped core vars e ty
      → OutsAreTyped core vars outs tys → OutsAreTyped core vars (Some e ∷ outs) (ty ∷ tys)

mutual
  -- the result gives outputs of the types where its variables have the types
  pub data ResultIsTyped (core : Core) (tys : List Ty) : List Ty → TypedResult → Type 0 where
    outputs : {vars : List Ty} {outs : List (Option TypedExpr)} → OutsAreTyped core vars outs tys → ResultIsTyped core tys vars (typed.Outs outs)
    choice : {vars : List Ty} {test : TypedExpr} {when_true when_false : TypedResult} → IsTyped core vars test shape.Bool
        → ResultIsTyped core tys vars when_true → ResultIsTyped core tys vars when_false
        → ResultIsTyped core tys vars (typed.If test when_true when_false)
    alternatives : {vars : List Ty} (of : Ty) {part : TypedExpr} {arms : List (PatC × TypedResult)} → IsTyped core vars part of
        → ResultArmsAreTyped core tys vars of arms → ResultIsTyped core tys vars (typed.Case of part arms)
    binding : {vars : List Ty} (of : Ty) {part : TypedExpr} {body : TypedResult} → IsTyped core vars part of
        → ResultIsTyped core tys (vars ++ of ∷ []) body → ResultIsTyped core tys vars (typed.Let of part body)
    raise_alone : {vars : List Ty} (number : ℕ) (exn : ExnDef) → slice_get core.exns number ≡ Some exn → exn.carries ≡ None
        → ResultIsTyped core tys vars (typed.Raise number None)
    raise_with : {vars : List Ty} (number : ℕ) (exn : ExnDef) (carried : Ty) {part : TypedExpr} → slice_get core.exns number ≡ Some exn
        → exn.carries ≡ Some carried → IsTyped core vars part carried → ResultIsTyped core tys vars (typed.Raise number (Some part))

  -- each alternative has a pattern for values of the one type and a result that gives the outputs
  pub data ResultArmsAreTyped (core : Core) (tys : List Ty) : List Ty → Ty → List (PatC × TypedResult) → Type 0 where
    no_arm : {vars : List Ty} {of : Ty} → ResultArmsAreTyped core tys vars of []
    one_arm : {vars bound : List Ty} {of : Ty} {p : PatC} {r : TypedResult} {arms : List (PatC × TypedResult)} → IsPattern core.types of p bound
        → ResultIsTyped core tys (vars ++ bound) r → ResultArmsAreTyped core tys vars of arms
        → ResultArmsAreTyped core tys vars of ((p, r) ∷ arms)
