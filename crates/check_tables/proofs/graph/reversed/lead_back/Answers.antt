use Rattle.std.proofs.Common.{refl}
use Rattle.check_tables.proofs.graph_lemmas.LedBack.{led_nothing, led_row}
use Rattle.check_tables.proofs.graph.reversed.lead_back.Goals as goal

pub loop-b-init : goal.loop-b-init
loop-b-init c = led_nothing c.args.back.now c.args.a

pub loop-b-preserved : goal.loop-b-preserved
loop-b-preserved c = led_row c.args.back.now c.loop-b.back c.lead_one_back.new.back c.args.a c.args.row.now c.loop-b.b-index _ c.loop-b-test.true refl c.loop-b.invariant c.in_ok-lead_one_back.ensures
