-- Which cells are those of a node's inputs or outputs at a time, and of which types the values of a stream are.
use Rattle.std.specs.Prelude.{◌≡◌, ℕ, ◌+◌, List, map, length, Option, None, Some, slice_get}
use Rattle.hume_base.specs.declared.types.Ty.{Ty}
use Rattle.hume_base.specs.declared.types.Ty.TheVariants as shape
use Rattle.hume_model.specs.declared.core_tree.NodeC.{NodeC}
use Rattle.hume_model.specs.declared.core_tree.WireC.{WireC}
use Rattle.hume_model.specs.declared.core_tree.Core.{Core}
use Rattle.hume_model.specs.Wiring.{inputs_of, outputs_of}
use Rattle.hume_net.specs.Sides.{wire_to, wire_from}
use Rattle.wire_cells.specs.Cells.{CellView, without_values}

-- as many cells, each of the wire that is found for its place, and all at the time
pub record AreOfSide (count : ℕ) (found : ℕ → Option ℕ) (time : ℕ) (cells : List CellView) : Type 0 where
  pub long : length cells ≡ count
  pub each : (place : ℕ) (cell : CellView) → slice_get cells place ≡ Some cell → found place ≡ Some cell.number
  pub times : (place : ℕ) (cell : CellView) → slice_get cells place ≡ Some cell → cell.time ≡ time

-- how many inputs a node has that may be missing
abbrev pub inputs_there : Option NodeC → ℕ
inputs_there None = 0
inputs_there (Some node) = inputs_of node

-- how many outputs it has
abbrev pub outputs_there : Option NodeC → ℕ
outputs_there None = 0
outputs_there (Some node) = outputs_of node

-- the cells of the wires that lead to a node's inputs, in order, at a time
abbrev pub AreInputs : Core → ℕ → ℕ → List CellView → Type 0
AreInputs core n time cells = AreOfSide (inputs_there (slice_get core.nodes n)) (wire_to core n) time cells

-- the cells of the wires that come from a node's outputs, in order, at a time
abbrev pub AreOutputs : Core → ℕ → ℕ → List CellView → Type 0
AreOutputs core n time cells = AreOfSide (outputs_there (slice_get core.nodes n)) (wire_from core n) time cells

-- a cell one half step later
abbrev pub ticked : CellView → CellView
ticked cell = record cell { time = cell.time + 1 }

-- the cells are those of the same wires one half step later, with whatever values
abbrev pub AreTicked : List CellView → List CellView → Type 0
AreTicked old new = map without_values new ≡ map (λ cell. without_values (ticked cell)) old

-- the type of a wire that may be missing
abbrev pub type_there : Option WireC → Ty
type_there None = shape.Bool
type_there (Some wire) = wire.ty

-- the type of the wire that was found, if one was
abbrev pub type_found : Core → Option ℕ → Ty
type_found core None = shape.Bool
type_found core (Some wire) = type_there (slice_get core.wires wire)

-- the type of the values that an input stream brings
abbrev pub brought_type : Core → ℕ → Ty
brought_type core n = type_found core (wire_from core n 0)

-- the type of the values that an output stream takes
abbrev pub taken_type : Core → ℕ → Ty
taken_type core n = type_found core (wire_to core n 0)
