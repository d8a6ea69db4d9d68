use Rattle.std.proofs.Common.{◌≡◌, drop}
use Rattle.check_rules.specs.CoreOf.{port_place}
use Rattle.check_wires.proofs.cores_lemmas.Steps.{place_from}
use Rattle.check_wires.proofs.cores.ends.port_place.Given as goal

abbrev pub invariant-loop-place : goal.invariant-loop-place
invariant-loop-place l = place_from l.place l.name (drop l.place l.ports) ≡ port_place l.name l.ports
