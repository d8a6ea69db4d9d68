use Rattle.net_costs.proofs.Peaks.{executed_peak, stepped_peak}
use Rattle.net_costs.proofs.laws.peaks_grow_in_execute_steps.Goals as goal

pub returns-clause-even : goal.returns-clause-even
returns-clause-even c = executed_peak

pub returns-clause-odd : goal.returns-clause-odd
returns-clause-odd c = stepped_peak
