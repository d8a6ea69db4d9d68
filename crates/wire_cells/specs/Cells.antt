-- What a cell of a wire holds, and which values these words are.
use Rattle.std.specs.Prelude.{◌≡◌, ℕ, nat_lt, Bool, List, [], map, length, true}
use Rattle.std.specs.List.{list_all}
use Rattle.std.specs.Option.{option_to_list}
use Rattle.hume_base.specs.declared.types.Types.{Types}
use Rattle.hume_base.specs.declared.types.Value.{Value}
use Rattle.hume_base.specs.Sizes.{size_of}
use Rattle.hume_base.specs.Values.{is_value}
use Rattle.hume_base.specs.Flat.{flat}
use Rattle.hume_model.specs.declared.core_tree.WireC.{WireC}
use Rattle.hume_model.specs.declared.core_tree.Core.{Core}

-- the number of its wire; its time, which is how many half steps of the nodes at the ends of its wire it has gone through; the
-- words of each value that it holds, the oldest first; how many words each has; and how many values it may hold
pub record CellView : Type 0 where
  pub number : ℕ
  pub time : ℕ
  pub values : List (List ℕ)
  pub size : ℕ
  pub depth : ℕ

-- all of a cell but the values that it holds
abbrev pub without_values : CellView → CellView
without_values cell = record cell { values = [] }

-- the cell holds fewer values than it may
abbrev pub cell_has_room : CellView → Bool
cell_has_room cell = nat_lt (length cell.values) cell.depth

-- the cell has the sizes of the wire, and holds these values of the wire's type, each as its flat words
pub record Holds (types : Types) (wire : WireC) (cell : CellView) (held : List Value) : Type 0 where
  pub words : cell.values ≡ map (flat types wire.ty) held
  pub typed : list_all (is_value types wire.ty) held ≡ true
  pub whole : cell.size ≡ size_of types wire.ty
  pub depth : cell.depth ≡ wire.depth

-- the cell of a wire as it begins: at time 0, with the initial value alone or with none
abbrev pub first_cell : Core → ℕ → WireC → CellView
first_cell core number wire = record {
  number = number;
  time = 0;
  values = map (flat core.types wire.ty) (option_to_list wire.initial);
  size = size_of core.types wire.ty;
  depth = wire.depth;
}
