use Rattle.hume_net.proofs.Times.{all_counted, even_counted, odd_counted}
use Rattle.hume_net.proofs.laws.times_count_half_steps.Goals as goal

pub returns-clause-all : goal.returns-clause-all
returns-clause-all c = all_counted

pub returns-clause-even : goal.returns-clause-even
returns-clause-even c = even_counted

pub returns-clause-odd : goal.returns-clause-odd
returns-clause-odd c = odd_counted
