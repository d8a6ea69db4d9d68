use Rattle.run_rounds.proofs.Reports.{line_as}
use Rattle.run_rounds.proofs.run.Running.tell_bad_line.Goals as goal

pub returns-clause-ends : goal.returns-clause-ends
returns-clause-ends g c = line_as _ _ c.args.bad _ _ _ c.core.ensures c.tell_bad_line.ensures.ends
