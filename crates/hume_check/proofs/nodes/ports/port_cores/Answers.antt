use Rattle.check_rules.specs.CoreOf.{IsPort}
use Rattle.hume_check.proofs.nodes_lemmas.Gathered.{next_found, all_found}
use Rattle.hume_check.proofs.nodes_lemmas.PortLaws.{has_type}
use Rattle.hume_check.proofs.nodes.ports.port_cores.Goals as goal

pub port_core-requires : goal.port_core-requires
port_core-requires c =
    has_type c.args.table.now.types c.args.places.now c.loop-place.place-index c.place-item.result c.loop-place-test.true c.place-item.is c.requires

pub loop-place-preserved : goal.loop-place-preserved
loop-place-preserved c =
    next_found (IsPort c.args.table.now.types) c.args.places.now c.loop-place.place-index c.place-item.result c.in_ok-port_core.field-0 c.loop-place.ports
    c.push.new.self c.loop-place-test.true c.place-item.is c.loop-place.invariant c.in_ok-port_core.ensures c.in_ok-push.ensures.ok

pub returns : goal.returns
returns c =
    all_found (IsPort c.args.table.now.types) c.args.places.now c.loop-place.place-index c.loop-place.ports c.loop-place-test.false c.loop-place.invariant
