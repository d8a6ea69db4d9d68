use Rattle.check_tables.proofs.graph_lemmas.LedBack.{reversed_more}
use Rattle.check_tables.proofs.graph.reversed.reversed.Goals as goal

pub loop-a-preserved : goal.loop-a-preserved
loop-a-preserved c =
    reversed_more c.args.graph.now c.loop-a.back c.lead_back.new.back c.loop-a.a c.row_of.result.now c.loop-a.invariant c.row_of.ensures c.in_ok-lead_back.ensures
