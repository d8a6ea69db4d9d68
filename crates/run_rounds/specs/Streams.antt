-- The streams of a core, and the ports outside that they name.
use Rattle.std.specs.Prelude.{◌≡◌, ℕ, List, length, map, Option, None, Some, codes, slice_get}
use Rattle.std.specs.List.{filter_map}
use Rattle.hume_model.specs.declared.core_tree.NodeC.{NodeC}
use Rattle.hume_model.specs.declared.core_tree.NodeC.TheVariants.{Rules, From, To}
use Rattle.hume_model.specs.declared.core_tree.StreamC.{StreamC}
use Rattle.hume_model.specs.declared.core_tree.Core.{Core}
use Rattle.port_acts.specs.Places.{IsPlaceOf}

-- the port of all that a call tells besides the values of streams
abbrev pub std_out : List ℕ
std_out = codes "std_out"

-- the stream of a node that is one
abbrev pub stream_of : NodeC → Option StreamC
stream_of (Rules b) = None
stream_of (From stream) = Some stream
stream_of (To stream) = Some stream

-- in source order
abbrev pub streams : Core → List StreamC
streams core = filter_map stream_of core.nodes

-- the stream of a node that is an input stream
abbrev pub input_of : NodeC → Option StreamC
input_of (Rules b) = None
input_of (From stream) = Some stream
input_of (To stream) = None

-- the input streams of a core, in source order
abbrev pub inputs : Core → List StreamC
inputs core = filter_map input_of core.nodes

-- the stream of a node that is an output stream
abbrev pub output_of : NodeC → Option StreamC
output_of (Rules b) = None
output_of (From stream) = None
output_of (To stream) = Some stream

-- the output streams of a core, in source order
abbrev pub outputs : Core → List StreamC
outputs core = filter_map output_of core.nodes

-- the ports of the streams
abbrev pub ports_of : List StreamC → List (List ℕ)
ports_of list = map (λ stream. stream.port) list

-- no two streams name one port
abbrev pub ArePortsApart : Core → Type 0
ArePortsApart core = (n m : ℕ) (node other : NodeC) (first second : StreamC) → slice_get core.nodes n ≡ Some node → slice_get core.nodes m ≡ Some other
    → stream_of node ≡ Some first → stream_of other ≡ Some second → first.port ≡ second.port → n ≡ m

-- Each stream's port is the first with its name among these, and the place of that port is written down at the stream's node.
pub record ArePlacesOf (core : Core) (names : List (List ℕ)) (places : List ℕ) : Type 0 where
  pub count : length places ≡ length core.nodes
  pub each : (n at : ℕ) (node : NodeC) (stream : StreamC) → slice_get core.nodes n ≡ Some node → stream_of node ≡ Some stream → slice_get places n ≡ Some at
      → IsPlaceOf stream.port names at
