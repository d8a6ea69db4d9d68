-- Cells of the wires on a side of a node: which they are, which values are built of a box's inputs, and what is left once some are taken.
use Rattle.std.specs.Prelude.{◌≡◌, ℕ, Bool, List, [], ◌∷◌, ◌++◌, map, length, drop, sum, Option, Some, if◌then◌else◌, slice_get}
use Rattle.std.specs.List.{flat_map}
use Rattle.hume_base.specs.declared.types.Ty.{Ty}
use Rattle.hume_base.specs.declared.types.Value.{Value}
use Rattle.hume_model.specs.declared.core_tree.WireC.{WireC}
use Rattle.hume_model.specs.declared.core_tree.Core.{Core}
use Rattle.hume_net.specs.declared.state.State.{State}
use Rattle.hume_net.specs.Sides.{on_wire}
use Rattle.box_costs.specs.Building.{built_of}
use Rattle.box_heap.specs.Heaps.{HeapView, HasObjects, Object, words_of_object, with_objects}
use Rattle.box_heap.specs.Stacks.{StackView, with_words}
use Rattle.box_heap.specs.Standing.{AllStand}
use Rattle.wire_cells.specs.Cells.{CellView, Holds}

-- the cell is one of a wire of the core with this type, and holds these values
pub record IsCellOf (core : Core) (type : Ty) (cell : CellView) (held : List Value) : Type 0 where
  pub wire : WireC
  pub there : slice_get core.wires cell.number ≡ Some wire
  pub ty : wire.ty ≡ type
  pub holds : Holds core.types wire cell held

-- each cell is one of a wire of the type in its place, and holds the values in its place
pub data AreCellsOf (core : Core) : List Ty → List CellView → List (List Value) → Type 0 where
  none : AreCellsOf core [] [] []
  more : {type : Ty} {types : List Ty} {cell : CellView} {cells : List CellView} {held : List Value} {others : List (List Value)}
      → IsCellOf core type cell held → AreCellsOf core types cells others → AreCellsOf core (type ∷ types) (cell ∷ cells) (held ∷ others)

-- the cell is that of the wire that was found, if one was, and holds the values that a state has on it
pub record IsCellAt (core : Core) (state : State) (found : Option ℕ) (cell : CellView) : Type 0 where
  pub is : found ≡ Some cell.number
  pub wire : WireC
  pub there : slice_get core.wires cell.number ≡ Some wire
  pub holds : Holds core.types wire cell (on_wire state cell.number)

-- Heap and stack once values are built: objects are put, just so many words as build the values, and for each value a word is
-- pushed that stands for it.
pub record AreBuilt (values : List Value) (heap built : HeapView) (stack top : StackView) : Type 0 where
  pub objects : List Object
  pub words : List ℕ
  pub put : built ≡ with_objects heap objects
  pub pushed : top ≡ with_words stack words
  pub each : length words ≡ length values
  pub takes : length (flat_map words_of_object objects) ≡ sum (map built_of values)
  pub has : (before : List Object) → HasObjects heap before → HasObjects built (before ++ objects)
  pub stand : (before : List Object) → HasObjects heap before → AllStand (before ++ objects) values words

-- the cells once the oldest value is dropped where one is taken
abbrev pub left_in : List Bool → List CellView → List CellView
left_in taken [] = []
left_in [] (cell ∷ cells) = cell ∷ cells
left_in (is_taken ∷ taken) (cell ∷ cells) = (if is_taken then record cell { values = drop 1 cell.values } else cell) ∷ left_in taken cells
