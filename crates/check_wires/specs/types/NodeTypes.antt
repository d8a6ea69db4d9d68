-- The types of the inputs and outputs of boxes, by their names.
use Rattle.std.specs.Prelude.{ℕ, List, [], map, Option, Some, None, slice_get}
use Rattle.hume_base.specs.declared.types.Ty.{Ty}
use Rattle.hume_base.specs.declared.types.Types.{Types}
use Rattle.hume_ast.specs.declared.tree.TyExp.{TyExp}
use Rattle.hume_ast.specs.declared.tree.Decl.{Decl}
use Rattle.hume_ast.specs.declared.tree.Decl.TheVariants.{BoxD}
use Rattle.check_tables.specs.names.Names.{number_of}
use Rattle.check_scopes.specs.signatures.inner.Tables.{table_of}
use Rattle.check_typing.specs.Partial.{given}
use Rattle.check_typing.specs.WrittenTypes.{written}
use Rattle.check_rules.specs.Declared.{Decls, Numbered, nodes_in}
use Rattle.check_rules.specs.TypeRules.{declared_name, or_else}
use Rattle.check_wires.specs.declared.types.ports.Ports.{Ports}
use Rattle.check_wires.specs.declared.types.wires.NodeTypes.{NodeTypes}
use Rattle.check_wires.specs.declared.types.wires.WireTypes.{WireTypes}

abbrev pub place_name : List ℕ × TyExp → List ℕ
place_name place = place.0

abbrev pub place_type : Types → List ℕ × TyExp → Option Ty
place_type types place = written types place.1

-- each name with the number of the first place that has it, and the type that is written in each place
abbrev pub ports_in : Types → List (List ℕ × TyExp) → Ports
ports_in types places = record { names = table_of place_name places; types = map (place_type types) places }

abbrev pub no_ports : Ports
no_ports = record { names = []; types = [] }

abbrev pub node_of : Types → Decl → NodeTypes
node_of types (BoxD name ins outs fair rules handlers) = record { inputs = ports_in types ins; outputs = ports_in types outs }
node_of types _ = record { inputs = no_ports; outputs = no_ports }

abbrev pub node_title : Numbered → List ℕ
node_title d = declared_name d.decl

-- the boxes and streams of a program, with the types of their inputs and outputs
abbrev pub node_types : Types → Decls → WireTypes
node_types types decls = record {
  names = table_of node_title (nodes_in decls);
  nodes = map (λ (d : Numbered). node_of types d.decl) (nodes_in decls);
}

-- the type at a name
abbrev pub type_at : Ports → Option (List ℕ) → Option Ty
type_at ports None = None
type_at ports (Some name) = given (number_of name ports.names) (λ n. given (slice_get ports.types n) (λ ty. ty))

abbrev pub node_at : WireTypes → List ℕ → Option NodeTypes
node_at found name = given (number_of name found.names) (λ n. slice_get found.nodes n)

-- the end of a wire: a node, and an output or an input if it is a box
abbrev pub WireEnd : Type 0
WireEnd = List ℕ × Option (List ℕ)

abbrev pub output_at : WireTypes → WireEnd → Option Ty
output_at found end = given (node_at found end.0) (λ (node : NodeTypes). type_at node.outputs end.1)

abbrev pub input_at : WireTypes → WireEnd → Option Ty
input_at found end = given (node_at found end.0) (λ (node : NodeTypes). type_at node.inputs end.1)

-- the type at the first end or, if it has none, at the second
abbrev pub type_between : WireTypes → WireEnd → WireEnd → Option Ty
type_between found from to = or_else (output_at found from) (input_at found to)
