-- When the positions, the handlers and the results of a box fit the types of its inputs and outputs.
use Rattle.std.specs.Prelude.{◌≡◌, ◌≢◌, ℕ, true, List, [], ◌∷◌, ◌++◌, map, Option, Some, None, if◌then◌else◌, slice_get}
use Rattle.hume_base.specs.declared.types.Ty.{Ty}
use Rattle.hume_base.specs.declared.types.Types.{Types}
use Rattle.hume_model.specs.declared.core_tree.InPat.{InPat}
use Rattle.hume_model.specs.declared.core_tree.InPat.TheVariants.{Star, AnyStar, Any, Built}
use Rattle.hume_model.specs.declared.core_tree.PatC.{PatC}
use Rattle.hume_model.specs.declared.core_tree.RuleC.{RuleC}
use Rattle.hume_model.specs.declared.core_tree.HandC.{HandC}
use Rattle.hume_model.specs.declared.core_tree.PortC.{PortC}
use Rattle.hume_model.specs.declared.core_tree.BoxC.{BoxC}
use Rattle.hume_model.specs.declared.core_tree.ExnDef.{ExnDef}
use Rattle.hume_model.specs.declared.core_tree.Core.{Core}
use Rattle.hume_model.specs.Typing.{IsPattern}
use Rattle.hume_model.specs.ResultTyping.{GivesOutputs}

-- the types of inputs or of outputs
abbrev pub port_types : List PortC → List Ty
port_types ports = map (λ (port : PortC). port.ty) ports

-- the positions of a rule fit the types of the inputs, and the rule's variables have the types
pub data PositionsHave (types : Types) : List Ty → List InPat → List Ty → Type 0 where
  none : PositionsHave types [] [] []
  star : {ty : Ty} {tys vars : List Ty} {pats : List InPat} → PositionsHave types tys pats vars
      → PositionsHave types (ty ∷ tys) (Star ∷ pats) vars
  any_star : {ty : Ty} {tys vars : List Ty} {pats : List InPat} → PositionsHave types tys pats vars
      → PositionsHave types (ty ∷ tys) (AnyStar ∷ pats) vars
  any : {ty : Ty} {tys vars : List Ty} {pats : List InPat} → PositionsHave types tys pats vars
      → PositionsHave types (ty ∷ tys) (Any ∷ pats) vars
  built : {ty : Ty} {tys vars more : List Ty} {p : PatC} {pats : List InPat} → IsPattern types ty p vars → PositionsHave types tys pats more
      → PositionsHave types (ty ∷ tys) (Built p ∷ pats) (vars ++ more)

-- the positions of the rule fit the box's inputs, which gives its variables their types
pub record PositionsAreTyped (types : Types) (b : BoxC) (rule : RuleC) : Type 0 where
  pub vars : List Ty
  pub have : PositionsHave types (port_types b.ins) rule.pats vars

-- the handler is for an exception of the core, and binds what it carries only where it carries something
pub record HandlerIsKnown (core : Core) (handler : HandC) : Type 0 where
  pub exn : ExnDef
  pub known : slice_get core.exns handler.exn ≡ Some exn
  pub carries : handler.bound ≡ true → exn.carries ≢ None

-- What wires and positions need of a box: nothing of what its results say. It has one handler at most for an exception.
pub record BoxHasFrame (core : Core) (b : BoxC) : Type 0 where
  pub positions : (number : ℕ) (rule : RuleC) → slice_get b.rules number ≡ Some rule → PositionsAreTyped core.types b rule
  pub handlers : (number : ℕ) (handler : HandC) → slice_get b.handlers number ≡ Some handler → HandlerIsKnown core handler
  pub apart : (first second : ℕ) (handler other : HandC) → slice_get b.handlers first ≡ Some handler → slice_get b.handlers second ≡ Some other
      → handler.exn ≡ other.exn → first ≡ second

-- the rule's result gives outputs of the box's types
pub record RuleIsTyped (core : Core) (b : BoxC) (rule : RuleC) : Type 0 where
  pub positions : PositionsAreTyped core.types b rule
  pub outputs : GivesOutputs core (port_types b.outs) positions.vars rule.result

-- the types of what an exception carries: one, or none
abbrev pub carried_types : Option Ty → List Ty
carried_types None = []
carried_types (Some ty) = ty ∷ []

-- the handler's only variable, if it has one, is what the exception carries
abbrev pub handler_types : HandC → ExnDef → List Ty
handler_types handler exn = if handler.bound then carried_types exn.carries else []

-- so does the handler's result
pub record HandlerIsTyped (core : Core) (b : BoxC) (handler : HandC) : Type 0 where
  pub is : HandlerIsKnown core handler
  pub outputs : GivesOutputs core (port_types b.outs) (handler_types handler is.exn) handler.result

-- what results need: those of each rule and each handler give outputs of the box's types
pub record BoxIsTyped (core : Core) (b : BoxC) : Type 0 where
  pub rules : (number : ℕ) (rule : RuleC) → slice_get b.rules number ≡ Some rule → RuleIsTyped core b rule
  pub handlers : (number : ℕ) (handler : HandC) → slice_get b.handlers number ≡ Some handler → HandlerIsTyped core b handler
