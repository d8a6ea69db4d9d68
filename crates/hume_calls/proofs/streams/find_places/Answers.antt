use Rattle.hume_calls.proofs.Fitting.{placed_read, all_placed, all_apart}
use Rattle.hume_calls.proofs.streams.find_places.Goals as goal

pub loop-number-preserved : goal.loop-number-preserved
loop-number-preserved g c =
    placed_read _ c.args.source.now _ c.as_slice-nodes.result.now c.loop-number.places.items c.push.new.self.items c.loop-number.number c.index-nodes-number.result c.in-Ok.at
    c.loop-number.invariant c.loop-number-test.true c.index-nodes-number.is c.in-Ok.ensures.fit c.in-Ok-push.ensures.items

pub returns-clause-places : goal.returns-clause-places
returns-clause-places g c = all_placed _ c.args.source.now _ c.args.core.now c.as_slice-nodes.result.now c.loop-number.places.items c.loop-number.number
    c.as_slice-nodes.ensures c.loop-number-test.false c.loop-number.auto.number-end c.loop-number.invariant

pub returns-clause-apart : goal.returns-clause-apart
returns-clause-apart g c = all_apart _ c.args.source.now _ c.args.core.now c.as_slice-nodes.result.now c.loop-number.places.items c.loop-number.number
    c.as_slice-nodes.ensures c.loop-number-test.false c.loop-number.invariant
