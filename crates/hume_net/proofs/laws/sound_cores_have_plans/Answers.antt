use Rattle.hume_net.proofs.Plans.{plan_joins}
use Rattle.hume_net.proofs.laws.sound_cores_have_plans.Goals as goal

pub returns : goal.returns
returns c core frame = plan_joins core frame.wires
