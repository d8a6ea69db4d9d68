use Rattle.form_laws.proofs.RewrittenEnds.{calls_end_alike}
use Rattle.form_laws.proofs.rewrites.calc_ends_as_run.Goals as goal

pub returns : goal.returns
returns c = calls_end_alike
