-- What a port in memory means.
use Rattle.std.specs.Prelude.{ℕ, List, Some, true, drop, string_bytes}
use Rattle.hume_ports.specs.declared.memory.MemPort.{MemPort}
use Rattle.hume_ports.specs.Port.{PortView}
use Rattle.hume_ports.specs.Memory.{Script, told_room}

-- the bytes left to read
abbrev pub left_bytes : MemPort → List ℕ
left_bytes port = drop port.taken port.incoming.items

-- the bytes written so far
abbrev pub output_bytes : MemPort → List ℕ
output_bytes port = port.output.items

-- what it means as a port
abbrev pub memory_view : MemPort → PortView
memory_view port = record {
  name = string_bytes port.name;
  left = Some (left_bytes port);
  bytes = Some (output_bytes port);
  read_faults = port.read_faults;
  write_faults = port.write_faults;
  finish_faults = port.finish_faults;
  room = told_room port.failing.items port.room;
  flushed = port.flushed;
  shown = true;
}

-- how its calls go
abbrev pub script_of : MemPort → Script
script_of port = record {
  calls = port.calls;
  piece = port.piece;
  room = port.room;
  failing = port.failing.items;
}
