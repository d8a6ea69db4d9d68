-- The type of a stream's values.
use Rattle.std.specs.Prelude.{ℕ, ◌==◌, ◌||◌, Bool, Option, None, Some}
use Rattle.std.specs.List.{find}
use Rattle.hume_base.specs.declared.types.Ty.{Ty}
use Rattle.hume_base.specs.declared.types.Ty.TheVariants as shape
use Rattle.hume_model.specs.declared.core_tree.WireC.{WireC}
use Rattle.hume_model.specs.declared.core_tree.Core.{Core}

-- the wire comes from the node or leads to it
abbrev pub joins : ℕ → WireC → Bool
joins node wire = (wire.from == node) || (wire.to == node)

-- the type of a wire that may be missing; a stream of an accepted source has its wire
abbrev pub type_of_found : Option WireC → Ty
type_of_found None = shape.Bool
type_of_found (Some wire) = wire.ty

-- that of its one wire
abbrev pub type_at : Core → ℕ → Ty
type_at core node = type_of_found (find (joins node) core.wires)
