use Rattle.form_laws.proofs.RewrittenNodes.{runs_alike}
use Rattle.form_laws.proofs.RewrittenOwed.{runs_finish_alike, runs_owe_alike, runs_read_alike}
use Rattle.form_laws.proofs.rewrites.scripts_keep_bytes.Goals as goal

pub returns-clause-alike : goal.returns-clause-alike
returns-clause-alike c core new script formed made = runs_owe_alike core new (runs_alike core new script formed made)

pub returns-clause-finishes : goal.returns-clause-finishes
returns-clause-finishes c core new script formed made = runs_finish_alike core new (runs_alike core new script formed made)

pub returns-clause-reads : goal.returns-clause-reads
returns-clause-reads c core new script formed made = runs_read_alike core new (runs_alike core new script formed made)
