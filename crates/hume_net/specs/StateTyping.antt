-- When a state has, on each wire and as each output or input to come, a value of its type.
use Rattle.std.specs.Prelude.{◌≡◌, ℕ, true, List, [], Option, Some, slice_get}
use Rattle.std.specs.List.{list_all}
use Rattle.std.specs.Option.{unwrap_or}
use Rattle.hume_base.specs.declared.types.Value.{Value}
use Rattle.hume_base.specs.Values.{is_value}
use Rattle.hume_model.specs.declared.core_tree.BoxC.{BoxC}
use Rattle.hume_model.specs.declared.core_tree.StreamC.{StreamC}
use Rattle.hume_model.specs.declared.core_tree.NodeC.TheVariants.{Rules, From, To}
use Rattle.hume_model.specs.declared.core_tree.WireC.{WireC}
use Rattle.hume_model.specs.declared.core_tree.Core.{Core}
use Rattle.hume_net.specs.declared.state.State.{State}
use Rattle.hume_model.specs.ResultTyping.{are_outputs}
use Rattle.hume_model.specs.BoxTyping.{BoxIsTyped, port_types}
use Rattle.hume_model.specs.Wiring.{WiresAgree}
use Rattle.hume_net.specs.Sides.{on_wire, part_of}
use Rattle.hume_model.specs.WellFormed.{HasSoundParts}

-- all that the types of a net's values rest on
pub record IsTypedNet (core : Core) : Type 0 where
  pub sound : HasSoundParts core
  pub boxes : (n : ℕ) (b : BoxC) → slice_get core.nodes n ≡ Some (Rules b) → BoxIsTyped core b
  pub wires : WiresAgree core

-- the values on wires, those that boxes have yet to assert, those that input streams have yet to bring, and those that
-- output streams have taken
pub record IsTypedState (core : Core) (state : State) : Type 0 where
  pub wires : (w : ℕ) (wire : WireC) → slice_get core.wires w ≡ Some wire → list_all (is_value core.types wire.ty) (on_wire state w) ≡ true
  pub pending : (n : ℕ) (b : BoxC) (outs : List (Option Value)) → slice_get core.nodes n ≡ Some (Rules b) → (part_of state n).pending ≡ Some outs
      → are_outputs core.types (port_types b.outs) outs ≡ true
  pub coming : (n : ℕ) (stream : StreamC) (w : ℕ) (wire : WireC) → slice_get core.nodes n ≡ Some (From stream) → slice_get core.wires w ≡ Some wire
      → wire.from ≡ n → list_all (is_value core.types wire.ty) (part_of state n).coming ≡ true
  pub taken : (n : ℕ) (stream : StreamC) (w : ℕ) (wire : WireC) → slice_get core.nodes n ≡ Some (To stream) → slice_get core.wires w ≡ Some wire
      → wire.to ≡ n → wire.to_port ≡ 0 → list_all (is_value core.types wire.ty) (part_of state n).taken ≡ true

-- the value that a wire begins with is of its type
abbrev pub InitialsAreTyped : Core → Type 0
InitialsAreTyped core = (w : ℕ) (wire : WireC) (v : Value) → slice_get core.wires w ≡ Some wire → wire.initial ≡ Some v → is_value core.types wire.ty v ≡ true

-- the values that are to come from an input stream are of the type of its wires
abbrev pub ComingAreTyped : Core → List (List Value) → Type 0
ComingAreTyped core coming = (n : ℕ) (stream : StreamC) (w : ℕ) (wire : WireC) → slice_get core.nodes n ≡ Some (From stream)
    → slice_get core.wires w ≡ Some wire → wire.from ≡ n → list_all (is_value core.types wire.ty) (unwrap_or (slice_get coming n) []) ≡ true
