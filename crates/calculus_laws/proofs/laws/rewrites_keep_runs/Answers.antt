use Rattle.calculus_laws.proofs.Runs.{run_kept}
use Rattle.calculus_laws.proofs.laws.rewrites_keep_runs.Goals as goal

pub returns : goal.returns
returns c = run_kept
