use Rattle.trials.proofs.Sources.{boxes_small, few_nodes}
use Rattle.trials.proofs.net.step_net.Goals as goal

pub net_make-requires : goal.net_make-requires
net_make-requires c = boxes_small c.args.accepted.now c.requires

pub tell_taken-requires-clause-few : goal.tell_taken-requires-clause-few
tell_taken-requires-clause-few c = few_nodes c.args.accepted.now c.requires
