-- How the ports of a session are finished.
use Rattle.std.specs.Prelude.{◌≡◌, ℕ, List, [], ◌∷◌, ◌++◌, length, Some, Result, Ok, Err, slice_get, slice_index_or}
use Rattle.std.specs.List.{flat_map, range_with_len}
use Rattle.hume_model.specs.declared.core_tree.NodeC.TheVariants.{To}
use Rattle.hume_model.specs.declared.core_tree.StreamC.{StreamC}
use Rattle.hume_model.specs.declared.core_tree.Core.{Core}
use Rattle.hume_ports.specs.Ports.{other_names, place_of}
use Rattle.port_acts.specs.Acts.{Act, finishes, finish_each}
use Rattle.run_rounds.specs.Streams.{std_out}
use Rattle.hume_console.specs.Serving.{output_port}
use Rattle.hume_ports.specs.declared.port.Failed.{Failed}
use Rattle.hume_console.specs.declared.ending.Ending.{Ending}
use Rattle.hume_console.specs.declared.ending.Ending.TheVariants.{Fault}
use Rattle.hume_console.specs.Hands.{Hands}
use Rattle.hume_console.specs.Session.{Session}
use Rattle.hume_console.specs.inner.Standing.{Call, EndsCall}

-- Of a node the port has this place, if it is an output stream, and `std_out` the last one.
pub record IsClosable (core : Core) (session : Session) (names : List (List ℕ)) (node at last : ℕ) : Type 0 where
  pub at_out : place_of std_out names ≡ Some last
  pub at_port : (stream : StreamC) → slice_get core.nodes node ≡ Some (To stream) → place_of (session.port node) names ≡ Some at

-- the finish of a node's port, which is none if it isn't an output stream, or its port is `std_out`
abbrev pub node_finish : Core → Session → ℕ → List Act
node_finish core session node = finish_each (other_names std_out (output_port session node (slice_get core.nodes node)))

-- those of the first nodes
abbrev pub stream_finishes : Core → Session → ℕ → List Act
stream_finishes core session count = flat_map (node_finish core session) (range_with_len 0 count)

-- `std_out` is the last one
abbrev pub all_finishes : Core → Session → List Act
all_finishes core session = stream_finishes core session (length core.nodes) ++ finishes std_out ∷ []

-- The ports of a session have these places.
pub record AreClosable (core : Core) (session : Session) (names : List (List ℕ)) (places : List ℕ) (last : ℕ) : Type 0 where
  pub count : length places ≡ length core.nodes
  pub each : (node : ℕ) → IsClosable core session names node (slice_index_or places node 0) last

-- The call has given its answer, once its ports are finished, or one of them could not be.
abbrev pub EndsClosed : Call → Ending → Hands → Result (Unit {0}) Failed → Type 0
EndsClosed call ending now (Ok done) = EndsCall call now ending
EndsClosed call ending now (Err failed) = EndsCall call now Fault
