use Rattle.hume_c.proofs.Answering.{asked_nothing}
use Rattle.hume_c.proofs.call.hume_c.Goals as goal

pub returns-in_default-clause-run : goal.returns-in_default-clause-run
returns-in_default-clause-run g c = asked_nothing _ _ _
