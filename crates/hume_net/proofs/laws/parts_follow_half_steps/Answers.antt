use Rattle.hume_net.proofs.Times.{part_after_even, part_after_odd}
use Rattle.hume_net.proofs.laws.parts_follow_half_steps.Goals as goal

pub returns-clause-even : goal.returns-clause-even
returns-clause-even c = part_after_even

pub returns-clause-odd : goal.returns-clause-odd
returns-clause-odd c = part_after_odd
