use Rattle.std.proofs.Common.{drop}
use Rattle.check_rules.specs.CoreOf.{IsPort}
use Rattle.hume_check.proofs.nodes_lemmas.Gathered.{GoesOn}
use Rattle.hume_check.proofs.nodes.ports.port_cores.Given as goal

abbrev pub invariant-loop-place : goal.invariant-loop-place
invariant-loop-place l = GoesOn (IsPort l.table.types) l.places (drop l.place-index l.places) l.ports
