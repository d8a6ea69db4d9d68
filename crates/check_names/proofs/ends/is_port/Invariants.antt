use Rattle.std.proofs.Common.{◌≡◌, map, drop, Some}
use Rattle.check_names.specs.Unknown.{is_end}
use Rattle.check_names.proofs.ends.is_port.Given as goal

abbrev pub invariant-loop-port : goal.invariant-loop-port
invariant-loop-port l = is_end l.end (map (λ port. (l.name, Some port.0)) (drop l.port-index l.ports)) ≡ is_end l.end (map (λ port. (l.name, Some port.0)) l.ports)
