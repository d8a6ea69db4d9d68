use Rattle.hume_calls.proofs.Runnable.{is_ready}
use Rattle.hume_calls.proofs.ready.made_ready.Goals as goal

pub returns-clause-ready : goal.returns-clause-ready
returns-clause-ready c = is_ready _ _ c.requires.1
