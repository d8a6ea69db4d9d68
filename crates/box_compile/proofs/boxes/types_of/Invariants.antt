use Rattle.std.proofs.Common.{◌≡◌, take}
use Rattle.hume_model.specs.BoxTyping.{port_types}
use Rattle.box_compile.proofs.boxes.types_of.Given as goal

abbrev pub invariant-loop-port : goal.invariant-loop-port
invariant-loop-port l = l.types ≡ port_types (take l.port-index l.ports)
