-- Room for the line of each wire of a core.
use Rattle.std.specs.Prelude.{ℕ, ◌+◌, ◌*◌, map}
use Rattle.hume_base.specs.declared.types.Types.{Types}
use Rattle.hume_base.specs.Sizes.{greatest, size_of}
use Rattle.hume_model.specs.declared.core_tree.WireC.{WireC}
use Rattle.hume_model.specs.declared.core_tree.Core.{Core}

-- enough bytes for the line of a wire that holds no more values than its depth
abbrev pub wire_room : Types → WireC → ℕ
wire_room types wire = 160 + wire.depth * (512 * size_of types wire.ty + 3)

-- enough for the line of each wire, and for one of a superstep or of a box
abbrev pub line_room : Core → ℕ
line_room core = 160 + greatest (map (wire_room core.types) core.wires)
