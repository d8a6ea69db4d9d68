use Rattle.std.proofs.Common.{◌≡◌, drop}
use Rattle.std.specs.List.{list_all}
use Rattle.hume_model.specs.BoxTyping.{port_types}
use Rattle.match_rules.specs.Plain.{scalar}
use Rattle.match_rules.proofs.plain.are_scalar.Given as goal

abbrev pub invariant-loop-port : goal.invariant-loop-port
invariant-loop-port l = list_all scalar (port_types (drop l.port-index l.ports)) ≡ list_all scalar (port_types l.ports)
