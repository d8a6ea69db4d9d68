-- A core that `check` gives is well-formed (`IsWellFormed`).
-- Its frame is sound (`HasSoundFrame`), whatever its functions and results say:
--   data types hold only data types of smaller numbers and have their sizes written beside them (`HoldSmaller`, `HaveTheirSizes`);
--   the exceptions that every program has stand first (OwnExceptions.antt);
--   positions and handlers of each box fit the types of its inputs and of exceptions (`BoxHasFrame`, BoxTyping.antt);
--   each wire has its ends, and its type from them (WireEnds.antt);
--   and all is within the limits (Limits.antt, and for types and parts TypeLimits.antt and PartLimits.antt).
-- Its functions call only functions of smaller numbers (Calls.antt), and have their types (Typing.antt).
-- The results of rules and handlers give outputs of their boxes' types (`BoxIsTyped`, BoxTyping.antt, ResultTyping.antt).
use Rattle.std.specs.Prelude.{◌≡◌, ℕ, ◌≤◌, ⊤, length, All, Some, slice_get}
use Rattle.hume_base.specs.declared.limits.TheConstants.{MAX_RULES}
use Rattle.hume_base.specs.Holding.{HoldSmaller}
use Rattle.hume_base.specs.Sizes.{HaveTheirSizes}
use Rattle.hume_model.specs.declared.core_tree.BoxC.{BoxC}
use Rattle.hume_model.specs.declared.core_tree.NodeC.{NodeC}
use Rattle.hume_model.specs.declared.core_tree.NodeC.TheVariants.{Rules, From, To}
use Rattle.hume_model.specs.declared.core_tree.WireC.{WireC}
use Rattle.hume_model.specs.declared.core_tree.Core.{Core}
use Rattle.hume_model.specs.OwnExceptions.{HasOwnExceptions}
use Rattle.hume_model.specs.BoxTyping.{BoxHasFrame, BoxIsTyped}
use Rattle.hume_model.specs.WireEnds.{HasEnds}
use Rattle.hume_model.specs.Limits.{IsWithinLimits}
use Rattle.hume_model.specs.Calls.{CallsGoDown}
use Rattle.hume_model.specs.Typing.{FunctionsAreTyped}

-- What is asked whatever functions and results say: a core without functions whose results are all `Outs []` may have a
-- sound frame.
pub record HasSoundFrame (core : Core) : Type 0 where
  pub holds : HoldSmaller core.types
  pub sizes : HaveTheirSizes core.types
  pub exceptions : HasOwnExceptions core
  pub boxes : (n : ℕ) (b : BoxC) → slice_get core.nodes n ≡ Some (Rules b) → BoxHasFrame core b
  pub wires : (w : ℕ) (wire : WireC) → slice_get core.wires w ≡ Some wire → HasEnds core wire
  pub limits : IsWithinLimits core

-- its frame is sound, and so is what its functions and its results say
pub record IsWellFormed (core : Core) : Type 0 where
  pub frame : HasSoundFrame core
  pub calls : CallsGoDown core
  pub functions : FunctionsAreTyped core
  pub boxes : (n : ℕ) (b : BoxC) → slice_get core.nodes n ≡ Some (Rules b) → BoxIsTyped core b

-- what the meaning of an expression rests on: a well-formed core has it
pub record HasSoundParts (core : Core) : Type 0 where
  pub holds : HoldSmaller core.types
  pub exceptions : HasOwnExceptions core
  pub calls : CallsGoDown core
  pub functions : FunctionsAreTyped core

-- a box has no more rules than are allowed
abbrev pub HasFewRules : NodeC → Type 0
HasFewRules (Rules b) = length b.rules ≤ MAX_RULES
HasFewRules (From stream) = ⊤
HasFewRules (To stream) = ⊤

-- no box has more rules than are allowed: a well-formed core has none such
pub record HasSmallBoxes (core : Core) : Type 0 where
  pub rules : All HasFewRules core.nodes
