use Rattle.turn_locker.proofs.Counts.{counts_balanced, counts_scheduled}
use Rattle.turn_locker.proofs.laws.counts_are_times_of_a_schedule.Goals as goal

pub returns-clause-balanced : goal.returns-clause-balanced
returns-clause-balanced g c = counts_balanced g.T.Timed.number_of g.T.Timed.time_of g.T.Timed.right

pub returns-clause-scheduled : goal.returns-clause-scheduled
returns-clause-scheduled g c = counts_scheduled g.T.Timed.number_of g.T.Timed.time_of g.T.Timed.right
