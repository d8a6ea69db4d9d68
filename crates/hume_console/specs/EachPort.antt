-- What a course makes of each port, told by the place that the port has before.
use Rattle.std.specs.Prelude.{◌≡◌, ℕ, zero, suc, ◌+◌, ◌==◌, ◌&&◌, Bool, true, false, List, [], ◌∷◌, ◌++◌, length, Option, None, Some, if◌then◌else◌, slice_get}
use Rattle.std.specs.List.{remove}
use Rattle.std.specs.Option.{option_map, unwrap_or}
use Rattle.std.specs.Io.KnownBytes.{Appends}
use Rattle.hume_ports.specs.Port.{PortView}
use Rattle.hume_ports.specs.Ports.{names, place_of}
use Rattle.hume_ports.specs.Delivery.{Pairs, bytes_for, without}
use Rattle.port_acts.specs.Acts.{Act, written, is_finished}
use Rattle.hume_console.specs.Hands.{Hands, place_without}
use Rattle.hume_console.specs.Courses.{Course, ends, leaves}

-- Where a port stands in the end: among the ports that are there, or among those that have left on the way, counted from 0.
pub data Stand : Type 0 where
  there : (at : ℕ) → Stand
  gone : (at : ℕ) → Stand

-- the same when another port has left before
abbrev pub behind_one : Stand → Stand
behind_one (there at) = there at
behind_one (gone at) = gone (at + 1)

-- where the port at a place stands after the course
abbrev pub stand_after : Course → ℕ → Stand
stand_after (ends bound acts answer) at = there at
stand_after (leaves bound acts leaving later) at =
    if leaving == at then gone 0 else behind_one (stand_after later (place_without leaving at))

-- the bytes of the pairs that go to the port at a place: of ports with one name the first has them, and the others none
abbrev pub bytes_at : ℕ → List (List ℕ) → Pairs → List ℕ
bytes_at at [] pairs = []
bytes_at zero (name ∷ names) pairs = bytes_for name pairs
bytes_at (suc at) (name ∷ names) pairs = bytes_at at names (without name pairs)

-- what the course writes to the port at a place while that is there, among ports with these names
abbrev pub written_to : ℕ → List (List ℕ) → Course → List ℕ
written_to at names (ends bound acts answer) = bytes_at at names (written acts)
written_to at names (leaves bound acts leaving later) = bytes_at at names (written acts)
    ++ (if leaving == at then [] else written_to (place_without leaving at) (remove names leaving) later)

-- whether the place is this one
abbrev pub is_place : ℕ → Option ℕ → Bool
is_place at None = false
is_place at (Some other) = other == at

-- whether acts finish the port at a place, and write nothing to it afterwards
abbrev pub finish_at : ℕ → List (List ℕ) → List Act → Bool
finish_at at names acts = unwrap_or (option_map (λ name. is_place at (place_of name names) && is_finished name acts) (slice_get names at)) false

-- whether the last of the course's acts while the port at a place is there finish it
abbrev pub finishes_last : ℕ → List (List ℕ) → Course → Bool
finishes_last at names (ends bound acts answer) = finish_at at names acts
finishes_last at names (leaves bound acts leaving later) =
    if leaving == at then finish_at at names acts else finishes_last (place_without leaving at) (remove names leaving) later

-- The port stands there, in the end.
abbrev pub StandsAs : Stand → Hands → Hands → PortView → Type 0
StandsAs (there at) old new port = slice_get new.ports at ≡ Some port
StandsAs (gone at) old new port = slice_get new.gone (length old.gone + at) ≡ Some port

-- What has become of a port: it stands where the course leaves it, has got exactly what the course writes to it, and is flushed where the
-- course finishes it last.
pub record IsServed (course : Course) (at : ℕ) (port : PortView) (old new : Hands) : Type 0 where
  pub last : PortView
  pub stands : StandsAs (stand_after course at) old new last
  pub same_name : last.name ≡ port.name
  pub bytes : Appends port.bytes last.bytes (written_to at (names old.ports) course)
  pub flushed : finishes_last at (names old.ports) course ≡ true → last.flushed ≡ true
