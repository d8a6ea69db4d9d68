-- When the typed functions, rules and handlers are those of a core's functions, rules and handlers, and typed.
use Rattle.std.specs.Prelude.{◌≡◌, List, [], ◌∷◌, map}
use Rattle.hume_base.specs.declared.types.Ty.{Ty}
use Rattle.hume_model.specs.declared.core_tree.FunC.{FunC}
use Rattle.hume_model.specs.declared.core_tree.BoxC.{BoxC}
use Rattle.hume_model.specs.declared.core_tree.Core.{Core}
use Rattle.hume_model.specs.Typing.{ArePatterns}
use Rattle.hume_model.specs.BoxTyping.{HandlerIsKnown, PositionsAreTyped, handler_types, port_types}
use Rattle.typed_core.specs.declared.typed_tree.TypedEquation.{TypedEquation}
use Rattle.typed_core.specs.declared.typed_tree.TypedRule.{TypedRule}
use Rattle.typed_core.specs.declared.typed_tree.TypedHandler.{TypedHandler}
use Rattle.typed_core.specs.Erasing.{erased_equation, erased_handler, erased_rule}
use Rattle.typed_core.specs.ResultTyping.{ResultIsTyped}
use Rattle.typed_core.specs.Typing.{IsTyped}

-- each equation has patterns for parameters of the types, and a body of the type that the function gives
pub data EquationsAreTyped (core : Core) (params : List Ty) (gives : Ty) : List TypedEquation → Type 0 where
  none : EquationsAreTyped core params gives []
  one : {equation : TypedEquation} {equations : List TypedEquation} (vars : List Ty) → ArePatterns core.types params equation.pats vars
      → IsTyped core vars equation.body gives → EquationsAreTyped core params gives equations
      → EquationsAreTyped core params gives (equation ∷ equations)

-- the function's equations are what these erase to, and these are typed
pub record AreEquationsOf (core : Core) (function : FunC) (equations : List TypedEquation) : Type 0 where
  pub erases : map erased_equation equations ≡ function.equations
  pub typed : EquationsAreTyped core function.params function.gives equations

-- the positions of the rule fit the box's inputs, and its result gives outputs of the box's types
pub record TypedRuleFits (core : Core) (b : BoxC) (rule : TypedRule) : Type 0 where
  pub positions : PositionsAreTyped core.types b (erased_rule rule)
  pub outputs : ResultIsTyped core (port_types b.outs) positions.vars rule.result

-- the handler is for an exception of the core, and its result gives outputs of the box's types
pub record TypedHandlerFits (core : Core) (b : BoxC) (handler : TypedHandler) : Type 0 where
  pub is : HandlerIsKnown core (erased_handler handler)
  pub outputs : ResultIsTyped core (port_types b.outs) (handler_types (erased_handler handler) is.exn) handler.result
