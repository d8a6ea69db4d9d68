-- How large the parts of a core may be.
use Rattle.std.specs.Prelude.{◌≡◌, ℕ, ◌*◌, ◌≤◌, Bool, true, false, ◌&&◌, if◌then◌else◌, All, List, length, map, sum, Option, Some, None, slice_get}
use Rattle.std.specs.List.{list_all}
use Rattle.hume_base.specs.declared.limits.TheConstants.{MAX_NAME_BYTES, MAX_PORT_NAME_BYTES, MAX_PARAMETERS, MAX_FIELDS, MAX_CONSTRUCTORS, MAX_TYPE_WORDS, MAX_FUNCTIONS, MAX_EXCEPTIONS, MAX_NODES, MAX_INPUTS, MAX_OUTPUTS, MAX_RULES, MAX_WIRES, MAX_WIRE_WORDS}
use Rattle.hume_base.specs.declared.types.Ty.{Ty}
use Rattle.hume_base.specs.declared.types.Ty.TheVariants as shape
use Rattle.hume_base.specs.declared.types.SumDef.{SumDef}
use Rattle.hume_base.specs.declared.types.ConDef.{ConDef}
use Rattle.hume_base.specs.declared.types.Types.{Types}
use Rattle.hume_base.specs.Sizes.{size_of}
use Rattle.hume_model.specs.declared.core_tree.ExnDef.{ExnDef}
use Rattle.hume_model.specs.declared.core_tree.FunC.{FunC}
use Rattle.hume_model.specs.declared.core_tree.PortC.{PortC}
use Rattle.hume_model.specs.declared.core_tree.HandC.{HandC}
use Rattle.hume_model.specs.declared.core_tree.BoxC.{BoxC}
use Rattle.hume_model.specs.declared.core_tree.StreamC.{StreamC}
use Rattle.hume_model.specs.declared.core_tree.NodeC.{NodeC}
use Rattle.hume_model.specs.declared.core_tree.NodeC.TheVariants.{Rules, From, To}
use Rattle.hume_model.specs.declared.core_tree.WireC.{WireC}
use Rattle.hume_model.specs.declared.core_tree.Core.{Core}
use Rattle.hume_model.specs.WireEnds.{is_stream}
use Rattle.hume_model.specs.TypeLimits.{IsWrittenType}
use Rattle.hume_model.specs.PartLimits.{is_written_equation, is_written_rule, is_written_result}

-- a name has a byte, and no more than are allowed
pub record IsName (name : List ℕ) : Type 0 where
  pub some : 1 ≤ length name
  pub bytes : length name ≤ MAX_NAME_BYTES

-- so does the name of a port outside, which may be longer
pub record IsPortName (name : List ℕ) : Type 0 where
  pub some : 1 ≤ length name
  pub bytes : length name ≤ MAX_PORT_NAME_BYTES

-- an input or output of a box
pub record IsSmallBoxPort (types : Types) (port : PortC) : Type 0 where
  pub name : IsName port.name
  pub ty : IsWrittenType types port.ty

-- a box has at least one input, output and rule, and no more than are allowed
pub record IsSmallBox (types : Types) (b : BoxC) : Type 0 where
  pub name : IsName b.name
  pub some_inputs : 1 ≤ length b.ins
  pub inputs : length b.ins ≤ MAX_INPUTS
  pub each_input : All (IsSmallBoxPort types) b.ins
  pub some_outputs : 1 ≤ length b.outs
  pub outputs : length b.outs ≤ MAX_OUTPUTS
  pub each_output : All (IsSmallBoxPort types) b.outs
  pub some_rules : 1 ≤ length b.rules
  pub rules : length b.rules ≤ MAX_RULES
  pub each_rule : list_all (is_written_rule types) b.rules ≡ true
  pub each_handler : list_all (λ (handler : HandC). is_written_result types handler.result) b.handlers ≡ true

-- a stream and its port have names
pub record IsSmallStream (stream : StreamC) : Type 0 where
  pub name : IsName stream.name
  pub port : IsPortName stream.port

-- a box or a stream
abbrev pub IsSmallNode : Types → NodeC → Type 0
IsSmallNode types (Rules b) = IsSmallBox types b
IsSmallNode types (From stream) = IsSmallStream stream
IsSmallNode types (To stream) = IsSmallStream stream

-- a function has at least one parameter and equation; by its types each equation has a pattern for each parameter
pub record IsSmallFunction (types : Types) (function : FunC) : Type 0 where
  pub name : IsName function.name
  pub some_params : 1 ≤ length function.params
  pub params : length function.params ≤ MAX_PARAMETERS
  pub each_param : All (IsWrittenType types) function.params
  pub gives : IsWrittenType types function.gives
  pub equations : 1 ≤ length function.equations
  pub each_equation : list_all (is_written_equation types) function.equations ≡ true

-- an exception has a name, and may carry a value of a type
pub record IsSmallException (types : Types) (exn : ExnDef) : Type 0 where
  pub name : IsName exn.name
  pub carries : (ty : Ty) → exn.carries ≡ Some ty → IsWrittenType types ty

-- a constructor has a name, and no more fields than are allowed
pub record IsSmallConstructor (types : Types) (con : ConDef) : Type 0 where
  pub name : IsName con.name
  pub fields : length con.fields ≤ MAX_FIELDS
  pub each_field : All (IsWrittenType types) con.fields

-- a data type has a constructor, of which each takes a token of the source, and is no larger than a type may be
pub record IsSmallData (core : Core) (number : ℕ) (sum_type : SumDef) : Type 0 where
  pub name : IsName sum_type.name
  pub some_constructors : 1 ≤ length sum_type.cons
  pub constructors : length sum_type.cons ≤ MAX_CONSTRUCTORS
  pub each_constructor : All (IsSmallConstructor core.types) sum_type.cons
  pub words : size_of core.types (shape.Named number) ≤ MAX_TYPE_WORDS

-- there is such a node, and it is a stream
abbrev pub is_stream_there : Option NodeC → Bool
is_stream_there None = false
is_stream_there (Some node) = is_stream node

-- the words of the values that a wire holds at most; it counts for none between two streams, which have no type
abbrev pub wire_words : Core → WireC → ℕ
wire_words core wire =
    if is_stream_there (slice_get core.nodes wire.from) && is_stream_there (slice_get core.nodes wire.to)
    then 0
    else size_of core.types wire.ty * wire.depth

-- there are no more parts than are allowed, and each of them is small
pub record IsWithinLimits (core : Core) : Type 0 where
  pub functions : length core.funs ≤ MAX_FUNCTIONS
  pub exceptions : length core.exns ≤ MAX_EXCEPTIONS
  pub nodes : length core.nodes ≤ MAX_NODES
  pub wires : length core.wires ≤ MAX_WIRES
  pub words : sum (map (wire_words core) core.wires) ≤ MAX_WIRE_WORDS
  pub each_data_type : (n : ℕ) (sum_type : SumDef) → slice_get core.types.sums n ≡ Some sum_type → IsSmallData core n sum_type
  pub each_exception : All (IsSmallException core.types) core.exns
  pub each_function : All (IsSmallFunction core.types) core.funs
  pub each_node : All (IsSmallNode core.types) core.nodes
