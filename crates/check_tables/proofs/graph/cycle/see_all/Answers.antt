use Rattle.std.proofs.Common.{refl}
use Rattle.check_tables.proofs.graph_lemmas.Grown.{grows_row}
use Rattle.check_tables.proofs.graph.cycle.see_all.Goals as goal

pub loop-b-preserved : goal.loop-b-preserved
loop-b-preserved c = grows_row _ _ _ _ _ _ c.args.row.now c.loop-b.b-index _ c.loop-b-test.true refl c.loop-b.invariant c.in_ok-see.ensures
