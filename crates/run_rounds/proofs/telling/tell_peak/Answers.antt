use Rattle.std.proofs.Common.{rules}
use Rattle.run_rounds.proofs.Tellings.{untold}
use Rattle.run_rounds.proofs.telling.tell_peak.Goals as goal

pub returns-in-Some-From-clause-ends : goal.returns-in-Some-From-clause-ends
returns-in-Some-From-clause-ends g c = untold _ _ (search rules)

pub returns-in-Some-From-2-clause-ends : goal.returns-in-Some-From-2-clause-ends
returns-in-Some-From-2-clause-ends g c = untold _ _ (search rules)

pub returns-in-Some-From-3-clause-ends : goal.returns-in-Some-From-3-clause-ends
returns-in-Some-From-3-clause-ends g c = untold _ _ (search rules)
