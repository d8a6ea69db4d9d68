-- Which core a program stands for, in the source of a text.
use Rattle.std.specs.Prelude.{◌≡◌, ℕ, ◌&&◌, List, map, Bool, true, false, Option, Some, None}
use Rattle.hume_base.specs.Places.{line_at}
use Rattle.hume_base.specs.declared.types.Ty.{Ty}
use Rattle.hume_base.specs.declared.types.Types.{Types}
use Rattle.hume_base.specs.declared.types.Value.{Value}
use Rattle.hume_ast.specs.declared.tree.TyExp.{TyExp}
use Rattle.hume_ast.specs.declared.tree.Exp.{Exp}
use Rattle.hume_ast.specs.declared.tree.Decl.{Decl}
use Rattle.hume_ast.specs.declared.tree.Decl.TheVariants.{BoxD, Stream}
use Rattle.hume_ast.specs.declared.tree.Program.{Program}
use Rattle.hume_model.specs.declared.core_tree.PortC.{PortC}
use Rattle.hume_model.specs.declared.core_tree.BoxC.{BoxC}
use Rattle.hume_model.specs.declared.core_tree.StreamC.{StreamC}
use Rattle.hume_model.specs.declared.core_tree.NodeC.{NodeC}
use Rattle.hume_model.specs.declared.core_tree.NodeC.TheVariants.{Rules, From, To}
use Rattle.hume_model.specs.declared.core_tree.WireC.{WireC}
use Rattle.hume_model.specs.declared.core_tree.FunC.{FunC}
use Rattle.hume_model.specs.declared.core_tree.Core.{Core}
use Rattle.hume_model.specs.WireEnds.{is_stream, output_type, input_type, type_of_ends}
use Rattle.typed_core.specs.Erasing.{erased_equation, erased_handler, erased_rule}
use Rattle.check_typing.specs.Partial.{given}
use Rattle.check_typing.specs.Signatures.{first_named}
use Rattle.check_typing.specs.WrittenTypes.{written}
use Rattle.check_typing.specs.Declarations.{InPlaces, CoredEquation, CoredRule, CoredHandler, cores_alone, WrittenRule, WrittenHandler, IsFunction, IsBox, signature_written}
use Rattle.check_typing.specs.declared.signatures.Signatures.{Signatures}
use Rattle.check_rules.specs.Declared.{FunctionDecl, function_of, in_order, Numbered, nodes_in, WireDecl, wires_in}
use Rattle.check_rules.specs.SignaturesOf.{AreSignatures}
use Rattle.check_rules.specs.Constants.{constant}

-- a function has its name, its line, its signature, and what the trees of its equations erase to
pub record IsFunctionOf (text : List ℕ) (signatures : Signatures) (f : FunctionDecl) (function : FunC) : Type 0 where
  pub name : function.name ≡ f.name
  pub line : function.line ≡ line_at text f.place
  pub signature : signature_written signatures.types f.name f.types ≡ Some (record { name = f.name; params = function.params; gives = function.gives })
  pub cores : List CoredEquation
  pub typed : IsFunction signatures f.name f.types f.equations cores
  pub equations : function.equations ≡ map erased_equation (cores_alone cores)

-- an input or an output has its name and the type that is written
pub record IsPort (types : Types) (place : List ℕ × TyExp) (port : PortC) : Type 0 where
  pub name : port.name ≡ place.0
  pub ty : written types place.1 ≡ Some port.ty

-- a box has its name, its line, its inputs and outputs, and what the trees of its rules and of its handlers erase to
pub record IsBoxOf (text : List ℕ) (signatures : Signatures) (d : Numbered) (title : List ℕ) (inputs outputs : List (List ℕ × TyExp)) (is_fair : Bool)
    (rules : List WrittenRule) (handlers : List WrittenHandler) (b : BoxC) : Type 0 where
  pub name : b.name ≡ title
  pub line : b.line ≡ line_at text d.place
  pub declaration : b.declaration ≡ d.number
  pub ins : InPlaces (IsPort signatures.types) inputs b.ins
  pub outs : InPlaces (IsPort signatures.types) outputs b.outs
  pub fair : b.fair ≡ is_fair
  pub rule_cores : List CoredRule
  pub handler_cores : List CoredHandler
  pub typed : IsBox signatures inputs outputs rules handlers rule_cores handler_cores
  pub rules_are : b.rules ≡ map erased_rule (cores_alone rule_cores)
  pub handlers_are : b.handlers ≡ map erased_handler (cores_alone handler_cores)

-- a stream has its name, its line, its declaration and its port
abbrev pub stream_core : List ℕ → Numbered → List ℕ → List ℕ → StreamC
stream_core text d title outside = record { name = title; line = line_at text d.place; declaration = d.number; port = outside }

-- a node is a box with its core, or a stream
abbrev pub IsNodeOf : List ℕ → Signatures → Numbered → Decl → NodeC → Type 0
IsNodeOf text signatures d (BoxD name ins outs fair rules handlers) node =
    (b : BoxC) × (node ≡ Rules b) × IsBoxOf text signatures d name ins outs fair rules handlers b
IsNodeOf text signatures d (Stream name true port) node = node ≡ From (stream_core text d name port)
IsNodeOf text signatures d (Stream name false port) node = node ≡ To (stream_core text d name port)
IsNodeOf text signatures d _ node = ⊥

-- the name of a box or a stream
abbrev pub node_name : NodeC → List ℕ
node_name (Rules b) = b.name
node_name (From stream) = stream.name
node_name (To stream) = stream.name

-- the place of the first input or output of that name
abbrev pub port_place : List ℕ → List PortC → Option ℕ
port_place name ports = given (first_named (λ (port : PortC). port.name) name ports) (λ found. Some found.0)

-- the place of an output of a node, which of a stream has no name
abbrev pub output_place : Option (List ℕ) → NodeC → Option ℕ
output_place (Some name) (Rules b) = port_place name b.outs
output_place None (From stream) = Some 0
output_place _ _ = None

-- the place of an input of a node, which of a stream has no name
abbrev pub input_place : Option (List ℕ) → NodeC → Option ℕ
input_place (Some name) (Rules b) = port_place name b.ins
input_place None (To stream) = Some 0
input_place _ _ = None

-- the node of the name, with its number, and the place
pub record IsEnd (place_in : Option (List ℕ) → NodeC → Option ℕ) (nodes : List NodeC) (written_end : List ℕ × Option (List ℕ)) (number place : ℕ) : Type 0 where
  pub node : NodeC
  pub found : first_named node_name written_end.0 nodes ≡ Some (number, node)
  pub at : place_in written_end.1 node ≡ Some place

-- a wire holds one value where nothing is said
abbrev pub depth_or_one : Option ℕ → ℕ
depth_or_one None = 1
depth_or_one (Some depth) = depth

-- the first value is the one that is written, and of the wire's type; between two streams there is none
abbrev pub Initial : Signatures → Ty → Option Exp → Option Value → Type 0
Initial signatures ty None value = value ≡ None
Initial signatures ty (Some e) value = (v : Value) × (constant signatures e ty ≡ Some v) × (value ≡ Some v)

-- the first value of a wire, by whether the wire joins two streams
abbrev pub InitialBetween : Bool → Signatures → Ty → Option Exp → Option Value → Type 0
InitialBetween true signatures ty e value = value ≡ None
InitialBetween false signatures ty e value = Initial signatures ty e value

-- a wire has its line, its two ends, its type from them, its depth and its first value
pub record IsWireOf (text : List ℕ) (signatures : Signatures) (nodes : List NodeC) (w : WireDecl) (wire : WireC) : Type 0 where
  pub line : wire.line ≡ line_at text w.place
  pub declaration : wire.declaration ≡ w.number
  pub from : IsEnd output_place nodes w.from wire.from wire.from_port
  pub to : IsEnd input_place nodes w.to wire.to wire.to_port
  pub ty : wire.ty ≡ type_of_ends (output_type from.node wire.from_port) (input_type to.node wire.to_port)
  pub depth : wire.depth ≡ depth_or_one w.depth
  pub initial : InitialBetween (is_stream from.node && is_stream to.node) signatures wire.ty w.initial wire.initial

-- the core has the data types, exceptions and functions of the program, its nodes and its wires
pub record IsCoreOf (text : List ℕ) (program : Program) (core : Core) : Type 0 where
  pub signatures : Signatures
  pub are : AreSignatures program.decls signatures
  pub types : core.types ≡ signatures.types
  pub exns : core.exns ≡ signatures.exns
  pub funs : InPlaces (IsFunctionOf text signatures) (in_order function_of are.funs.order program.decls) core.funs
  pub nodes : InPlaces (λ (d : Numbered) node. IsNodeOf text signatures d d.decl node) (nodes_in program.decls) core.nodes
  pub wires : InPlaces (IsWireOf text signatures core.nodes) (wires_in program.decls) core.wires
