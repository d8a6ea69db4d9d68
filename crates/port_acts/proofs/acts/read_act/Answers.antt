use Rattle.port_acts.proofs.Single.{read_ends, read_stops}
use Rattle.port_acts.proofs.acts.read_act.Goals as goal

pub returns-clause-made : goal.returns-clause-made
returns-clause-made g c = read_ends _ _ _ _ _ c.read_at.ensures.taken c.read_at.ensures.untouched

pub returns-clause-failed : goal.returns-clause-failed
returns-clause-failed g c = read_stops _ _ _ _ c.read_at.ensures.failed c.read_at.ensures.roomy c.read_at.ensures.untouched
