use Rattle.net_costs.proofs.StepBounds.{peaks_within, typed_peaks_within}
use Rattle.net_costs.proofs.laws.peaks_keep_bounds.Goals as goal

pub returns-clause-states : goal.returns-clause-states
returns-clause-states c = typed_peaks_within

pub returns-clause-locksteps : goal.returns-clause-locksteps
returns-clause-locksteps c = peaks_within
