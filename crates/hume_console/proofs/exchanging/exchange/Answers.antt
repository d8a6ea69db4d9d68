use Rattle.std.proofs.Common.{ap, arith, length, map}
use Rattle.hume_console.specs.declared.ending.Ending.TheVariants.{Fault}
use Rattle.hume_console.proofs.ExchangePlaces.{exchange_failed, exchange_made, exchange_refused, node_there, place_there, port_there}
use Rattle.hume_console.proofs.Lent.{ended_back, lent_back}
use Rattle.hume_console.proofs.StepFills.{within_seen}
use Rattle.hume_console.proofs.exchanging.exchange.Goals as goal

pub returns-in_default-clause-ends : goal.returns-in_default-clause-ends
returns-in_default-clause-ends g c call limit number later commands b begins stands =
    exchange_refused call limit number _ _ later begins c.args.engine.now commands c.args.places.now _ b stands _ c.core.ensures _ _ (ap (map _) c.deref.ensures.value)
    c.in_default.is c.find_exchange.ensures

pub of_node-at-requires : goal.of_node-at-requires
of_node-at-requires g c = place_there _ _ c.args.engine.now c.args.places.now _ _ c.core.ensures _ _ (ap (map _) c.deref.ensures.value) c.requires.placed _
    c.in-Some.is c.find_exchange.ensures

pub finish_old-requires : goal.finish_old-requires
finish_old-requires g c =
    let within = within_seen _ c.args.ports.now.items _ (port_there _ _ c.args.engine.now c.args.places.now _ _ c.core.ensures _ _ (ap (map _) c.deref.ensures.value)
    c.requires.placed _ c.in-Some.is c.find_exchange.ensures) in
    omega (arith, within, c.of_node-at.ensures, ap length c.deref_mut.ensures.value)

pub forget_old-requires-clause-within : goal.forget_old-requires-clause-within
forget_old-requires-clause-within g c = node_there _ _ c.args.engine.now c.args.places.now _ _ c.core.ensures _ _ (ap (map _) c.deref.ensures.value) c.requires.placed _
    c.in-Some.is c.find_exchange.ensures

pub retire-requires-clause-place : goal.retire-requires-clause-place
retire-requires-clause-place g c =
    let within = within_seen _ c.args.ports.now.items _ (port_there _ _ c.args.engine.now c.args.places.now _ _ c.core.ensures _ _ (ap (map _) c.deref.ensures.value)
    c.requires.placed _ c.in-Some.is c.find_exchange.ensures) in
    omega (arith, within, c.of_node-at.ensures, ap length c.deref_mut.ensures.value, c.deref_mut.ensures.len)

pub retire-requires-clause-room : goal.retire-requires-clause-room
retire-requires-clause-room g c =
    let within = within_seen _ c.args.ports.now.items _ (port_there _ _ c.args.engine.now c.args.places.now _ _ c.core.ensures _ _ (ap (map _) c.deref.ensures.value)
    c.requires.placed _ c.in-Some.is c.find_exchange.ensures) in
    omega (arith, within, c.requires.room, ap length c.deref_mut.ensures.value, c.deref_mut.ensures.len)

pub exchange-requires : goal.exchange-requires
exchange-requires g c = place_there _ _ c.args.engine.now c.args.places.now _ _ c.core.ensures _ _ (ap (map _) c.deref.ensures.value) c.requires.placed _
    c.in-Some.is c.find_exchange.ensures

pub returns-in-Err-clause-ends : goal.returns-in-Err-clause-ends
returns-in-Err-clause-ends g c call limit number later commands b begins stands =
    ended_back _ c.args.ports.now.items c.deref_mut.result.now c.finish_old.new.ports c.args.ports.now.len c.deref_mut.ensures.len c.deref_mut.ensures.value
    c.finish_old.ensures.same_names call _ Fault
    (exchange_failed call limit number _ _ later begins c.args.engine.now commands c.args.places.now _ b stands _ c.core.ensures _ _ (ap (map _) c.deref.ensures.value)
    _ c.in-Some.is c.find_exchange.ensures _ c.of_node-at.ensures _ _ (ap (map _) c.deref_mut.ensures.value) _ c.core-2.ensures _ c.finish_old.ensures.ends c.in-Err.failed
    c.in-Err.is)

pub returns-clause-room : goal.returns-clause-room
returns-clause-room g c = omega (arith, c.requires.room, c.retire.ensures.count, c.retire.ensures.capacity)

pub returns-clause-ends : goal.returns-clause-ends
returns-clause-ends g c call limit number later commands b begins stands =
    exchange_made call limit number _ _ later begins c.args.engine.now commands c.args.places.now _ b stands _ c.core.ensures _ _ (ap (map _) c.deref.ensures.value)
    _ c.in-Some.is c.find_exchange.ensures _ c.of_node-at.ensures _ _ (ap (map _) c.deref_mut.ensures.value) _ c.core-2.ensures _ c.finish_old.ensures.ends
    _ c.forget_old.new.engine c.exchange.new.self _
    (lent_back _ c.args.ports.now.items c.deref_mut.result.now c.finish_old.new.ports c.args.ports.now.len c.deref_mut.ensures.len c.deref_mut.ensures.value
    c.finish_old.ensures.same_names) c.in-Ok.is c.retire.ensures.leaves c.forget_old.ensures.span c.forget_old.ensures.state c.forget_old.ensures.peaks
    c.forget_old.ensures.bound c.exchange.ensures.source c.exchange.ensures.std_in c.exchange.ensures.std_out c.exchange.ensures.streams
