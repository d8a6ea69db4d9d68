use Rattle.form_laws.proofs.RewrittenCalls.{calc_as_run}
use Rattle.form_laws.proofs.rewrites.calc_owes_the_bytes_of_run.Goals as goal

pub returns : goal.returns
returns c = calc_as_run
