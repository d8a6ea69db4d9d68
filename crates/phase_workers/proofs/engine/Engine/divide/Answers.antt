use Rattle.phase_workers.proofs.Rounding.{plan_is, few_items}
use Rattle.phase_workers.proofs.engine.Engine.divide.Goals as goal

pub divide_by-requires-clause-plan : goal.divide_by-requires-clause-plan
divide_by-requires-clause-plan c = (plan_is _ _ _ _ _ _ _ c.self.invariant, few_items _ _ _ _ _ _ _ c.self.invariant)
