use Rattle.check_names.proofs.IndexSteps.{index_more}
use Rattle.check_names.proofs.owner_index.add_owners.Goals as goal

pub loop-at-preserved : goal.loop-at-preserved
loop-at-preserved c =
    index_more c.loop-at.table c.add.new.self c.args.owners.now c.loop-at.at (c.get-number.result.0.now, c.get-number.result.1) c.loop-at.distinct c.in_ok-is_new.is_new
    c.get-number.ensures c.loop-at.invariant c.in_ok-is_new.ensures.is_new c.in_ok-is_new.ensures.added
