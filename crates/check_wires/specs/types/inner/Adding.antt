-- One more declaration among the boxes and streams.
use Rattle.std.specs.Prelude.{ℕ, List, [], ◌∷◌, ◌++◌, length}
use Rattle.hume_base.specs.declared.types.Types.{Types}
use Rattle.hume_ast.specs.declared.tree.Decl.{Decl}
use Rattle.hume_ast.specs.declared.tree.Decl.TheVariants.{BoxD, Stream}
use Rattle.check_tables.specs.names.Names.{with_name}
use Rattle.check_rules.specs.Declared.{Decls}
use Rattle.check_wires.specs.declared.types.wires.NodeTypes.{NodeTypes}
use Rattle.check_wires.specs.declared.types.wires.WireTypes.{WireTypes}
use Rattle.check_wires.specs.types.NodeTypes.{ports_in, no_ports}

abbrev pub none_yet : WireTypes
none_yet = record { names = []; nodes = [] }

abbrev pub with_node : WireTypes → List ℕ → NodeTypes → WireTypes
with_node found name node = record { names = with_name found.names name (length found.nodes); nodes = found.nodes ++ node ∷ [] }

abbrev pub with_declaration : Types → WireTypes → Decl → WireTypes
with_declaration types found (BoxD name ins outs fair rules handlers) =
    with_node found name (record { inputs = ports_in types ins; outputs = ports_in types outs })
with_declaration types found (Stream name from port) = with_node found name (record { inputs = no_ports; outputs = no_ports })
with_declaration types found _ = found

abbrev pub with_all : Types → WireTypes → Decls → WireTypes
with_all types found [] = found
with_all types found (d ∷ decls) = with_all types (with_declaration types found d.1) decls
