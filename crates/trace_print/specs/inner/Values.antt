-- Rows of words that are those of values.
use Rattle.std.specs.Prelude.{◌≡◌, ℕ, List, map, true}
use Rattle.std.specs.List.{list_all}
use Rattle.hume_base.specs.declared.types.Ty.{Ty}
use Rattle.hume_base.specs.declared.types.Types.{Types}
use Rattle.hume_base.specs.declared.types.Value.{Value}
use Rattle.hume_base.specs.Flat.{flat}
use Rattle.hume_base.specs.Values.{is_value}

-- each row has the words of the value at its place, which is of the type
pub record AreRowsOf (types : Types) (ty : Ty) (rows : List (List ℕ)) (held : List Value) : Type 0 where
  pub words : rows ≡ map (flat types ty) held
  pub typed : list_all (is_value types ty) held ≡ true
