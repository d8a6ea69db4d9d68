use Rattle.run_rounds.specs.Members.{views}
use Rattle.run_rounds.proofs.Reports.{member_line_as}
use Rattle.run_rounds.proofs.run.Running.tell_member_bad_line.Goals as goal

pub returns-clause-ends : goal.returns-clause-ends
returns-clause-ends g c = member_line_as _ _ (views c.args.members.now) c.args.bad _ _ _ c.core.ensures c.tell_member_bad_line.ensures.ends
