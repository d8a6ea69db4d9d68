-- Whether the port of one node is found, and may be its stream's.
use Rattle.std.specs.Prelude.{◌≡◌, ℕ, Bool, true, false, List, ◌++◌, Option, None, Some}
use Rattle.std.specs.List.{filter_map}
use Rattle.std.specs.Str.{bytes_eq}
use Rattle.hume_model.specs.declared.core_tree.NodeC.{NodeC}
use Rattle.hume_model.specs.declared.core_tree.StreamC.{StreamC}
use Rattle.hume_ports.specs.Ports.{place_of}
use Rattle.run_rounds.specs.Streams.{ports_of, stream_of}
use Rattle.hume_calls.specs.Streams.{is_unfit}

-- If the node is a stream, its port is fit behind these others and those of the earlier nodes, and stands at that place.
abbrev pub IsFitAt : List (List ℕ) → List ℕ → List (List ℕ) → List NodeC → NodeC → ℕ → Type 0
IsFitAt names source others earlier node at = (stream : StreamC) → stream_of node ≡ Some stream
    → (is_unfit names source (others ++ ports_of (filter_map stream_of earlier)) stream.port ≡ false) × (place_of stream.port names ≡ Some at)

-- It is a stream of that line, and its port is unfit.
abbrev pub IsUnfitAt : List (List ℕ) → List ℕ → List (List ℕ) → List NodeC → NodeC → ℕ → Type 0
IsUnfitAt names source others earlier node line = (stream : StreamC) × (stream_of node ≡ Some stream) × (line ≡ stream.line)
    × (is_unfit names source (others ++ ports_of (filter_map stream_of earlier)) stream.port ≡ true)

-- there is a stream, and it names the port
abbrev pub is_port_of : Option StreamC → List ℕ → Bool
is_port_of None port = false
is_port_of (Some stream) port = bytes_eq port stream.port
