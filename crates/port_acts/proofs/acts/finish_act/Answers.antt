use Rattle.port_acts.proofs.Single.{finish_ends}
use Rattle.port_acts.proofs.acts.finish_act.Goals as goal

pub returns-clause-ends : goal.returns-clause-ends
returns-clause-ends g c = finish_ends _ _ _ _
    c.finish_at.ensures.finished c.finish_at.ensures.flushed c.finish_at.ensures.failed c.finish_at.ensures.roomy c.finish_at.ensures.untouched
