-- The outputs of a box as words: which values they are, and what asserting them leaves in cells. An output is found by its place.
use Rattle.std.specs.Prelude.{◌≡◌, ℕ, suc, ⊤, Bool, true, ◌&&◌, List, [], ◌∷◌, ◌++◌, length, Option, None, Some, slice_get, if◌then◌else◌}
use Rattle.std.specs.Option.{option_flatten, option_map}
use Rattle.hume_base.specs.declared.types.Ty.{Ty}
use Rattle.hume_base.specs.declared.types.Types.{Types}
use Rattle.hume_base.specs.declared.types.Value.{Value}
use Rattle.hume_base.specs.Flat.{flat}
use Rattle.wire_cells.specs.Cells.{CellView, cell_has_room}

-- the value of the output at a place; none where it is absent
abbrev pub value_at : List (Option Value) → ℕ → Option Value
value_at values place = option_flatten (slice_get values place)

-- each output of a type has the flat words of its value, and none where it is absent
pub record AreWordsOfOutputs (types : Types) (tys : List Ty) (values : List (Option Value)) (outputs : ℕ → Option (List ℕ)) : Type 0 where
  pub each : (place : ℕ) (ty : Ty) → slice_get tys place ≡ Some ty → outputs place ≡ option_map (flat types ty) (value_at values place)

-- an output that isn't absent has a cell with room
abbrev pub has_room_for : Option (List ℕ) → CellView → Bool
has_room_for None cell = true
has_room_for (Some words) cell = cell_has_room cell

-- the cells have room for the outputs from a place on
abbrev pub have_room_for : (ℕ → Option (List ℕ)) → ℕ → List CellView → Bool
have_room_for outputs place [] = true
have_room_for outputs place (cell ∷ cells) = has_room_for (outputs place) cell && have_room_for outputs (suc place) cells

-- the cell with the words of an output behind the values that it holds
abbrev pub cell_with : Option (List ℕ) → CellView → CellView
cell_with None cell = cell
cell_with (Some words) cell = record cell { values = cell.values ++ words ∷ [] }

-- the cells with the outputs from a place on
abbrev pub cells_with : (ℕ → Option (List ℕ)) → ℕ → List CellView → List CellView
cells_with outputs place [] = []
cells_with outputs place (cell ∷ cells) = cell_with (outputs place) cell ∷ cells_with outputs (suc place) cells

-- each output from a place on has as many words as a value in its cell
abbrev pub FitCells : (ℕ → Option (List ℕ)) → ℕ → List CellView → Type 0
FitCells outputs place [] = ⊤
FitCells outputs place (cell ∷ cells) =
    ((words : List ℕ) → outputs place ≡ Some words → length words ≡ cell.size) × FitCells outputs (suc place) cells

-- all outputs are asserted at once where there is room for all of them; else none is
abbrev pub asserted_in : (ℕ → Option (List ℕ)) → List CellView → List CellView
asserted_in outputs cells = if have_room_for outputs 0 cells then cells_with outputs 0 cells else cells
