-- What a wire joins, and which type, how many values and which initial value it has.
use Rattle.std.specs.Prelude.{◌≡◌, ℕ, ◌≤◌, ◌<◌, Bool, true, false, Option, Some, None, slice_get}
use Rattle.std.specs.Option.{option_map}
use Rattle.hume_base.specs.declared.limits.TheConstants.{MAX_WIRE_DEPTH}
use Rattle.hume_base.specs.declared.types.Ty.{Ty}
use Rattle.hume_base.specs.declared.types.Ty.TheVariants as shape
use Rattle.hume_base.specs.declared.types.Value.{Value}
use Rattle.hume_base.specs.Values.{is_value}
use Rattle.hume_model.specs.declared.core_tree.PortC.{PortC}
use Rattle.hume_model.specs.declared.core_tree.NodeC.{NodeC}
use Rattle.hume_model.specs.declared.core_tree.NodeC.TheVariants.{Rules, From, To}
use Rattle.hume_model.specs.declared.core_tree.WireC.{WireC}
use Rattle.hume_model.specs.declared.core_tree.Core.{Core}
use Rattle.hume_model.specs.Wiring.{inputs_of, outputs_of}
use Rattle.hume_model.specs.TypeLimits.{IsWrittenType}

-- the node is a stream
abbrev pub is_stream : NodeC → Bool
is_stream (Rules b) = false
is_stream (From stream) = true
is_stream (To stream) = true

-- the type of an output and of an input; a stream has none of its own
abbrev pub output_type : NodeC → ℕ → Option Ty
output_type (Rules b) place = option_map (λ (port : PortC). port.ty) (slice_get b.outs place)
output_type (From stream) place = None
output_type (To stream) place = None

-- the type of an input of a node; a stream has none of its own
abbrev pub input_type : NodeC → ℕ → Option Ty
input_type (Rules b) place = option_map (λ (port : PortC). port.ty) (slice_get b.ins place)
input_type (From stream) place = None
input_type (To stream) place = None

-- the type of a wire by the types at its ends: the first one there is, and `bool` between two streams
abbrev pub type_of_ends : Option Ty → Option Ty → Ty
type_of_ends (Some ty) second = ty
type_of_ends None (Some ty) = ty
type_of_ends None None = shape.Bool

-- A wire comes from an output of a node and leads to an input of one, and has its type from them. It holds at least one
-- value, and no more than a wire may. Its initial value is of its type; between two streams there is none.
pub record HasEnds (core : Core) (wire : WireC) : Type 0 where
  pub producer : NodeC
  pub consumer : NodeC
  pub from : slice_get core.nodes wire.from ≡ Some producer
  pub from_port : wire.from_port < outputs_of producer
  pub to : slice_get core.nodes wire.to ≡ Some consumer
  pub to_port : wire.to_port < inputs_of consumer
  pub ty : wire.ty ≡ type_of_ends (output_type producer wire.from_port) (input_type consumer wire.to_port)
  pub some_depth : 1 ≤ wire.depth
  pub depth : wire.depth ≤ MAX_WIRE_DEPTH
  pub initial : (v : Value) → wire.initial ≡ Some v → is_value core.types wire.ty v ≡ true
  pub no_initial : is_stream producer ≡ true → is_stream consumer ≡ true → wire.initial ≡ None
  pub written : IsWrittenType core.types wire.ty
