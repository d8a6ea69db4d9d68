use Rattle.hume_net.proofs.Times.{after_even, after_odd}
use Rattle.hume_net.proofs.laws.times_follow_one_another.Goals as goal

pub returns-clause-even : goal.returns-clause-even
returns-clause-even c = after_even

pub returns-clause-odd : goal.returns-clause-odd
returns-clause-odd c = after_odd
