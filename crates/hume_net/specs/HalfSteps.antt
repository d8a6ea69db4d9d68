-- What one node does in a half step, from its own part and what is on the wires of its side alone. A wire is seen as its
-- values, the oldest first.
use Rattle.std.specs.Prelude.{ℕ, ◌==◌, not, Bool, true, ◌&&◌, List, [], ◌∷◌, ◌++◌, map, Option, None, Some, if◌then◌else◌}
use Rattle.std.specs.List.{filter, flat_map}
use Rattle.std.specs.Option.{is_some, option_to_list}
use Rattle.hume_base.specs.declared.types.Value.{Value}
use Rattle.hume_model.specs.declared.core_tree.BoxC.{BoxC}
use Rattle.hume_model.specs.declared.core_tree.NodeC.{NodeC}
use Rattle.hume_model.specs.declared.core_tree.NodeC.TheVariants.{Rules, From, To}
use Rattle.hume_model.specs.declared.core_tree.Core.{Core}
use Rattle.hume_model.specs.declared.outcome.Firing.{Firing}
use Rattle.hume_model.specs.Firing.{fire}
use Rattle.hume_net.specs.declared.state.Part.{Part}
use Rattle.hume_net.specs.declared.state.HalfStep.{HalfStep}

-- what a node sees on a wire: the oldest value, or none
abbrev pub oldest : List Value → Option Value
oldest [] = None
oldest (first ∷ later) = Some first

-- a wire once its oldest value is taken
abbrev pub without_oldest : List Value → List Value
without_oldest [] = []
without_oldest (first ∷ later) = later

-- nothing changes
abbrev pub idle : Part → List (List Value) → HalfStep
idle part wires = record { part = part; side = wires }

-- the wires of the inputs without the values that are taken
abbrev pub without_taken : List Bool → List (List Value) → List (List Value)
without_taken taken [] = []
without_taken [] (wire ∷ wires) = wire ∷ wires
without_taken (is_taken ∷ taken) (wire ∷ wires) = (if is_taken then without_oldest wire else wire) ∷ without_taken taken wires

-- the rule that fired goes last, and the others keep their places
abbrev pub moved_last : ℕ → List ℕ → List ℕ
moved_last rule order = filter (λ other. not (other == rule)) order ++ rule ∷ []

-- a box fires: its outputs are pending, and the values that its rule takes are gone from the wires
abbrev pub fired : BoxC → Part → List (List Value) → Option Firing → HalfStep
fired b part wires None = idle part wires
fired b part wires (Some firing) = record {
  part = record part {
    pending = Some firing.outs;
    order = if b.fair then moved_last firing.rule part.order else part.order;
  };
  side = without_taken firing.taken wires;
}

-- the values that are there
abbrev pub values_there : List (Option Value) → List Value
values_there values = flat_map option_to_list values

-- The execute step. A box with pending outputs does nothing; another fires if a rule fits. An output stream takes the
-- value that is there. An input stream does nothing.
abbrev pub execute : Core → NodeC → Part → List (List Value) → HalfStep
execute core (Rules b) part wires = if is_some part.pending then idle part wires else fired b part wires (fire core b part.order (map oldest wires))
execute core (From stream) part wires = idle part wires
execute core (To stream) part wires = record {
  part = record part { taken = part.taken ++ values_there (map oldest wires) };
  side = map without_oldest wires;
}

-- each output that has a value has a wire with room
abbrev pub have_room : List (Option Value) → List Bool → Bool
have_room [] rooms = true
have_room (value ∷ values) [] = true
have_room (None ∷ values) (room ∷ rooms) = have_room values rooms
have_room (Some value ∷ values) (room ∷ rooms) = room && have_room values rooms

-- the wires of the outputs with what is asserted behind the values that they hold
abbrev pub with_asserted : List (Option Value) → List (List Value) → List (List Value)
with_asserted values [] = []
with_asserted [] (wire ∷ wires) = wire ∷ wires
with_asserted (value ∷ values) (wire ∷ wires) = (wire ++ option_to_list value) ∷ with_asserted values wires

-- all values are asserted at once where there is room for all of them, and the part goes on to the second; else none is
abbrev pub asserted : Part → Part → List (Option Value) → List Bool → List (List Value) → HalfStep
asserted before next values rooms wires =
    if have_room values rooms then record { part = next; side = with_asserted values wires } else idle before wires

-- a box asserts its pending outputs, if it has some
abbrev pub assert_pending : Part → List Bool → List (List Value) → Option (List (Option Value)) → HalfStep
assert_pending part rooms wires None = idle part wires
assert_pending part rooms wires (Some values) = asserted part (record part { pending = None }) values rooms wires

-- an input stream asserts the next value that comes, if one does
abbrev pub assert_next : Part → List Bool → List (List Value) → List Value → HalfStep
assert_next part rooms wires [] = idle part wires
assert_next part rooms wires (value ∷ later) = asserted part (record part { coming = later }) (Some value ∷ []) rooms wires

-- The super step, by which of the wires have room. A box asserts its pending outputs, an input stream its next value. An
-- output stream does nothing.
abbrev pub super_step : NodeC → Part → List Bool → List (List Value) → HalfStep
super_step (Rules b) part rooms wires = assert_pending part rooms wires part.pending
super_step (From stream) part rooms wires = assert_next part rooms wires part.coming
super_step (To stream) part rooms wires = idle part wires
