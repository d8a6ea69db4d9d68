use Rattle.box_step.proofs.Orders.{stands_below}
use Rattle.box_step.proofs.stepping.put_last.Goals as goal

pub fired-requires : goal.fired-requires
fired-requires c = stands_below c.args.number c.args.order.now c.orders_have_each_rule_once.ensures.below c.requires.0 c.requires.1
