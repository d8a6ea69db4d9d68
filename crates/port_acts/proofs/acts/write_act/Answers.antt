use Rattle.port_acts.proofs.Single.{write_ends}
use Rattle.port_acts.proofs.acts.write_act.Goals as goal

pub returns-clause-ends : goal.returns-clause-ends
returns-clause-ends g c = write_ends _ _ _ _ _ c.write_at.ensures.given c.write_at.ensures.failed c.write_at.ensures.roomy c.write_at.ensures.untouched
