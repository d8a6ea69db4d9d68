use Rattle.log_rounds.proofs.Outcomes.{one_outcome, some_outcome}
use Rattle.log_rounds.proofs.laws.each_log_has_one_outcome.Goals as goal

pub returns-clause-some : goal.returns-clause-some
returns-clause-some c = λ core inputs steps text. some_outcome core inputs steps text

pub returns-clause-one : goal.returns-clause-one
returns-clause-one c = λ core inputs steps text first second p q. one_outcome core inputs steps text first second p q
