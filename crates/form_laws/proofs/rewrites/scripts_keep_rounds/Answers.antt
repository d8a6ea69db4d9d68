use Rattle.form_laws.proofs.RewrittenNodes.{runs_alike}
use Rattle.form_laws.proofs.RewrittenRounds.{rounds_same, same_blocking, same_line, same_made, same_round}
use Rattle.form_laws.proofs.RewrittenRuns.{blocked_writes}
use Rattle.form_laws.proofs.rewrites.scripts_keep_rounds.Goals as goal

pub returns-clause-acts : goal.returns-clause-acts
returns-clause-acts c core new script formed made = same_made core new (runs_alike core new script formed made)

pub returns-clause-writes : goal.returns-clause-writes
returns-clause-writes c core new script formed made = rounds_same core new (runs_alike core new script formed made)

pub returns-clause-round : goal.returns-clause-round
returns-clause-round c core new script formed made = same_round core new (runs_alike core new script formed made)

pub returns-clause-stream : goal.returns-clause-stream
returns-clause-stream c core new script formed made = same_blocking core new (runs_alike core new script formed made)

pub returns-clause-line : goal.returns-clause-line
returns-clause-line c core new script formed made = same_line core new (runs_alike core new script formed made)

pub returns-clause-blocked : goal.returns-clause-blocked
returns-clause-blocked c core new script formed made = blocked_writes core new (runs_alike core new script formed made)
