-- Which typed expressions are of which type, by the types of their variables. The type of an expression is known from above, and
-- gives the types of its parts together with what the form says. A form has the premises that `HasType` asks of its core.
use Rattle.std.specs.Prelude.{◌≡◌, ℕ, ◌<◌, true, List, [], ◌∷◌, ◌++◌, length, Some, None, slice_get, replicate}
use Rattle.hume_base.specs.declared.types.Ty.{Ty}
use Rattle.hume_base.specs.declared.types.Ty.TheVariants as shape
use Rattle.hume_base.specs.declared.types.SumDef.{SumDef}
use Rattle.hume_base.specs.declared.types.Value.TheVariants as value
use Rattle.hume_base.specs.Values.{is_value, fields_at}
use Rattle.hume_model.specs.declared.core_tree.Op.{Op}
use Rattle.hume_model.specs.declared.core_tree.Op.TheVariants.{Neg, Not}
use Rattle.hume_model.specs.declared.core_tree.PatC.{PatC}
use Rattle.hume_model.specs.declared.core_tree.FunC.{FunC}
use Rattle.hume_model.specs.declared.core_tree.ExnDef.{ExnDef}
use Rattle.hume_model.specs.declared.core_tree.Core.{Core}
use Rattle.hume_model.specs.Typing.{is_arithmetic, is_comparison, is_number_type, IsPattern}
use Rattle.typed_core.specs.declared.typed_tree.TypedExpr.{TypedExpr}
use Rattle.typed_core.specs.declared.typed_tree.TypedExpr.TheVariants as typed

mutual
  -- the expression has the type where its variables have the types
  pub data IsTyped (core : Core) : List Ty → TypedExpr → Ty → Type 0 where
    word : {vars : List Ty} {ty : Ty} (w : ℕ) → is_value core.types ty (value.Word w) ≡ true → IsTyped core vars (typed.Word w) ty
    variable : {vars : List Ty} {ty : Ty} (number : ℕ) → slice_get vars number ≡ Some ty → IsTyped core vars (typed.Var number) ty
    con : {vars : List Ty} (number place : ℕ) (sum : SumDef) {parts : List TypedExpr} → slice_get core.types.sums number ≡ Some sum
        → place < length sum.cons → AreTyped core vars parts (fields_at sum place) → IsTyped core vars (typed.Con place parts) (shape.Named number)
    tuple : {vars : List Ty} {parts : List TypedExpr} {tys : List Ty} → AreTyped core vars parts tys
        → IsTyped core vars (typed.Tuple parts) (shape.Tuple tys)
    vector : {vars : List Ty} (count : ℕ) (item : Ty) {parts : List TypedExpr} → AreTyped core vars parts (replicate {A = Ty} count item)
        → IsTyped core vars (typed.Vect parts) (shape.Vector count item)
    arithmetic : {vars : List Ty} (op : Op) (of : Ty) {parts : List TypedExpr} → is_arithmetic op ≡ true → is_number_type of ≡ true
        → AreTyped core vars parts (of ∷ of ∷ []) → IsTyped core vars (typed.Prim op of parts) of
    comparison : {vars : List Ty} (op : Op) (of : Ty) {parts : List TypedExpr} → is_comparison op of ≡ true
        → AreTyped core vars parts (of ∷ of ∷ []) → IsTyped core vars (typed.Prim op of parts) shape.Bool
    negation : {vars : List Ty} (of : Ty) {parts : List TypedExpr} → is_number_type of ≡ true
        → AreTyped core vars parts (of ∷ []) → IsTyped core vars (typed.Prim Neg of parts) of
    opposite : {vars : List Ty} {parts : List TypedExpr} → AreTyped core vars parts (shape.Bool ∷ [])
        → IsTyped core vars (typed.Prim Not shape.Bool parts) shape.Bool
    conversion : {vars : List Ty} (from to : Ty) {part : TypedExpr} → is_number_type from ≡ true → is_number_type to ≡ true
        → IsTyped core vars part from → IsTyped core vars (typed.Convert from to part) to
    index : {vars : List Ty} (count : ℕ) (places item : Ty) {vector place : TypedExpr} → is_number_type places ≡ true
        → IsTyped core vars vector (shape.Vector count item) → IsTyped core vars place places
        → IsTyped core vars (typed.Index (shape.Vector count item) places vector place) item
    update : {vars : List Ty} (count : ℕ) (places item : Ty) {vector place new_item : TypedExpr} → is_number_type places ≡ true
        → IsTyped core vars vector (shape.Vector count item) → IsTyped core vars place places
        → IsTyped core vars new_item item → IsTyped core vars (typed.Update (shape.Vector count item) places vector place new_item) (shape.Vector count item)
    choice : {vars : List Ty} {ty : Ty} {test when_true when_false : TypedExpr} → IsTyped core vars test shape.Bool
        → IsTyped core vars when_true ty → IsTyped core vars when_false ty → IsTyped core vars (typed.If test when_true when_false) ty
    alternatives : {vars : List Ty} (of : Ty) {ty : Ty} {part : TypedExpr} {arms : List (PatC × TypedExpr)} → IsTyped core vars part of
        → ArmsAreTyped core vars of arms ty → IsTyped core vars (typed.Case of part arms) ty
    binding : {vars : List Ty} (of : Ty) {ty : Ty} {part body : TypedExpr} → IsTyped core vars part of
        → IsTyped core (vars ++ of ∷ []) body ty → IsTyped core vars (typed.Let of part body) ty
    call : {vars : List Ty} (number : ℕ) (function : FunC) {parts : List TypedExpr} → slice_get core.funs number ≡ Some function
        → AreTyped core vars parts function.params → IsTyped core vars (typed.Call number parts) function.gives
    raise_alone : {vars : List Ty} {ty : Ty} (number : ℕ) (exn : ExnDef) → slice_get core.exns number ≡ Some exn → exn.carries ≡ None
        → IsTyped core vars (typed.Raise number None) ty
    raise_with : {vars : List Ty} {ty : Ty} (number : ℕ) (exn : ExnDef) (carried : Ty) {part : TypedExpr} → slice_get core.exns number ≡ Some exn
        → exn.carries ≡ Some carried → IsTyped core vars part carried → IsTyped core vars (typed.Raise number (Some part)) ty

  -- each expression has the type in its place
  pub data AreTyped (core : Core) : List Ty → List TypedExpr → List Ty → Type 0 where
    none : {vars : List Ty} → AreTyped core vars [] []
    one : {vars : List Ty} {e : TypedExpr} {es : List TypedExpr} {ty : Ty} {tys : List Ty} → IsTyped core vars e ty
        → AreTyped core vars es tys → AreTyped core vars (e ∷ es) (ty ∷ tys)

  -- each alternative has a pattern for values of the one type and an expression of the other
  pub data ArmsAreTyped (core : Core) : List Ty → Ty → List (PatC × TypedExpr) → Ty → Type 0 where
    no_arm : {vars : List Ty} {of ty : Ty} → ArmsAreTyped core vars of [] ty
    one_arm : {vars bound : List Ty} {of ty : Ty} {p : PatC} {e : TypedExpr} {arms : List (PatC × TypedExpr)} → IsPattern core.types of p bound
        → IsTyped core (vars ++ bound) e ty → ArmsAreTyped core vars of arms ty → ArmsAreTyped core vars of ((p, e) ∷ arms) ty
