-- What a fault of a session tells.
use Rattle.std.specs.Prelude.{◌≡◌, ℕ, zero, suc, ◌-◌, ◌==◌, List, [], length, take, Some, if◌then◌else◌, slice_get}
use Rattle.std.specs.Io.KnownBytes.{Appends}
use Rattle.hume_model.specs.declared.core_tree.Core.{Core}
use Rattle.hume_ports.specs.Port.{PortView, Rose}
use Rattle.hume_ports.specs.Ports.{names}
use Rattle.port_acts.specs.Acts.{wants, writes, finishes}
use Rattle.hume_console.specs.Courses.{Bound, Course, ends, leaves}
use Rattle.hume_console.specs.EachPort.{Stand, there, gone, behind_one, StandsAs, written_to}
use Rattle.hume_console.specs.Hands.{Hands, place_without}
use Rattle.session_laws.specs.OwnActs.{IsActOf, MayRead, MayWrite}

-- where the port at a place stands once so many ports have left on the course
abbrev pub stand_behind : Course → ℕ → ℕ → Stand
stand_behind (ends bound acts answer) left at = there at
stand_behind (leaves bound acts leaving later) zero at = there at
stand_behind (leaves bound acts leaving later) (suc left) at =
    if leaving == at then gone 0 else behind_one (stand_behind later left (place_without leaving at))

-- how many ports have left
abbrev pub left_since : Hands → Hands → ℕ
left_since old new = length new.gone - length old.gone

-- A port of that name is still there in the end, where it then stands, and this count of it has risen.
pub record CountRoseOf (count : PortView → ℕ) (stand : ℕ → Stand) (name : List ℕ) (old new : Hands) : Type 0 where
  pub at : ℕ
  pub first : PortView
  pub was : slice_get old.ports at ≡ Some first
  pub is_name : first.name ≡ name
  pub place : ℕ
  pub stands : stand at ≡ there place
  pub last : PortView
  pub is : slice_get new.ports place ≡ Some last
  pub same_name : last.name ≡ name
  pub rose : Rose (count first) (count last)

-- The same of a port that stands where the course leaves it.
abbrev pub CountRoseOn : Course → (PortView → ℕ) → List ℕ → Hands → Hands → Type 0
CountRoseOn course count name old new = CountRoseOf count (stand_behind course (left_since old new)) name old new

-- A count of one of the session's ports has risen: the read count of the source's port, or that of the port of an act of the course: the
-- read count of `std_in` or of a port that an input stream had then, or the write or finish count of `std_out` or of one that an output
-- stream had then.
pub data HasSessionFault (core : Core) (source : List ℕ) (course : Course) (old new : Hands) : Type 0 where
  of_source : CountRoseOn course (λ port. port.read_faults) source old new → HasSessionFault core source course old new
  of_read : (bound : Bound) (name : List ℕ) (count : ℕ) → IsActOf course bound (wants name count) → MayRead core bound name
      → CountRoseOn course (λ port. port.read_faults) name old new → HasSessionFault core source course old new
  of_write : (bound : Bound) (name bytes : List ℕ) → IsActOf course bound (writes name bytes) → MayWrite core bound name
      → CountRoseOn course (λ port. port.write_faults) name old new → HasSessionFault core source course old new
  of_finish : (bound : Bound) (name : List ℕ) → IsActOf course bound (finishes name) → MayWrite core bound name
      → CountRoseOn course (λ port. port.finish_faults) name old new → HasSessionFault core source course old new

-- What has become of the port at a place: it stands where the course leaves it when so many ports have left, and has got some front of what
-- the course writes to it.
pub record IsServedSoFar (course : Course) (at : ℕ) (port : PortView) (old new : Hands) : Type 0 where
  pub last : PortView
  pub stands : StandsAs (stand_behind course (left_since old new) at) old new last
  pub same_name : last.name ≡ port.name
  pub count : ℕ
  pub bytes : Appends port.bytes last.bytes (take count (written_to at (names old.ports) course))

-- The port at a place stays there, and has got nothing.
pub record GetsNothing (at : ℕ) (port : PortView) (new : Hands) : Type 0 where
  pub last : PortView
  pub is : slice_get new.ports at ≡ Some last
  pub same_name : last.name ≡ port.name
  pub bytes : Appends port.bytes last.bytes []
