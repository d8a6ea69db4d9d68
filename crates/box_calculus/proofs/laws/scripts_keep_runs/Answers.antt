use Rattle.box_calculus.proofs.KeptByLines.{runs_kept, written_kept}
use Rattle.box_calculus.proofs.laws.scripts_keep_runs.Goals as goal

pub returns-clause-runs : goal.returns-clause-runs
returns-clause-runs c = runs_kept

pub returns-clause-orders : goal.returns-clause-orders
returns-clause-orders c = written_kept
