use Rattle.std.proofs.Common.{◌≡◌, ◌++◌, map, drop}
use Rattle.check_names.specs.Names.{joined}
use Rattle.check_names.specs.Mentions.{type_mentions}
use Rattle.check_names.proofs.mention_decls.mention_ports.Given as goal

abbrev pub invariant-loop-port : goal.invariant-loop-port
invariant-loop-port l = l.out ++ joined (map (λ port. type_mentions port.1) (drop l.port-index l.ports)) ≡ l.fn.out ++ joined (map (λ port. type_mentions port.1) l.ports)
