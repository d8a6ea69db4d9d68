use Rattle.std.proofs.Common.{◌≡◌, ◌++◌, map, drop}
use Rattle.check_names.proofs.declared.push_ports.Given as goal

abbrev pub invariant-loop-port : goal.invariant-loop-port
invariant-loop-port l = l.names ++ map (λ port. port.0) (drop l.port-index l.ports) ≡ l.fn.names ++ map (λ port. port.0) l.ports
