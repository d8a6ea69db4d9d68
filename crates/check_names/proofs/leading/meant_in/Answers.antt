use Rattle.check_names.proofs.Steps.{meant_more}
use Rattle.check_names.proofs.leading.meant_in.Goals as goal

pub loop-at-preserved : goal.loop-at-preserved
loop-at-preserved c =
    meant_more c.args.kind c.args.owners.now.owners c.loop-at.row c.push_meant.new.row _ c.args.mentions.now c.loop-at.at (c.get-found.result.0, c.get-found.result.1.now) c.get-found.ensures c.loop-at.invariant c.in_ok-push_meant.ensures
