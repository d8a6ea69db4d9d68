use Rattle.std.proofs.Common.{length, sym, ◌∙◌, arith}
use Rattle.hume_console.specs.inner.Placed.{stands_at}
use Rattle.hume_console.proofs.Placing.{one_passes}
use Rattle.hume_console.proofs.places.Places.is_of_stream.Goals as goal

pub returns-then-stands_at : goal.returns-then-stands_at
returns-then-stands_at c =
    sym (one_passes (stands_at c.args.core.now c.args.self.now.streams.items c.args.at) (length c.args.self.now.streams.items) c.loop-node.node
    (omega (arith, c.loop-node-test.true, c.len-node-end.ensures)) (sym c.stands_at.ensures ∙ c.if-stands_at.true))
