-- Sessions whose ports have room.
use Rattle.std.specs.Prelude.{◌≡◌, ℕ, List, length, Some, slice_get}
use Rattle.hume_ports.specs.Delivery.{HasRoom}
use Rattle.hume_ports.specs.Port.{PortView}
use Rattle.hume_ports.specs.Ports.{names}
use Rattle.hume_console.specs.Courses.{Course}
use Rattle.hume_console.specs.EachPort.{written_to}

-- Each port has room for what the course writes to it.
abbrev pub HasRoomFor : List PortView → Course → Type 0
HasRoomFor ports course = (at : ℕ) (port : PortView) → slice_get ports at ≡ Some port → HasRoom port (length (written_to at (names ports) course))
