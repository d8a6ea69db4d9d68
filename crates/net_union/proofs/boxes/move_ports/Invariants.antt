use Rattle.std.proofs.Common.{◌≡◌, take, map}
use Rattle.union_laws.specs.Moving.{moved_port}
use Rattle.std.specs.Prelude.{IfOk}
use Rattle.net_union.proofs.boxes.move_ports.Given as goal

abbrev pub invariant-loop-port : goal.invariant-loop-port
invariant-loop-port l = IfOk l.higher (λ made. made ≡ map (moved_port l.fn.moves) (take l.port-index l.ports))
