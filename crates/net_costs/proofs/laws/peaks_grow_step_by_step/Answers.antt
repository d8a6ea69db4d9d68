use Rattle.net_costs.proofs.Peaks.{no_peak, next_peak, later_peak}
use Rattle.net_costs.proofs.laws.peaks_grow_step_by_step.Goals as goal

pub returns-clause-none : goal.returns-clause-none
returns-clause-none c = no_peak

pub returns-clause-next : goal.returns-clause-next
returns-clause-next c = λ core state steps n. next_peak core state n steps

pub returns-clause-parts : goal.returns-clause-parts
returns-clause-parts c = λ core state first more n. later_peak core state n first more
