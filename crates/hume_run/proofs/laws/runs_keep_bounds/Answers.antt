use Rattle.hume_run.proofs.Bounded.{run_within}
use Rattle.hume_run.proofs.laws.runs_keep_bounds.Goals as goal

pub returns : goal.returns
returns c = run_within c.inputs_have_types.ensures
