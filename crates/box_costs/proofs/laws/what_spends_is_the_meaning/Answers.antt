use Rattle.box_costs.proofs.Outcomes.{comes_to}
use Rattle.box_costs.proofs.Results.{sound}
use Rattle.box_costs.proofs.Rules.{fires}
use Rattle.box_costs.proofs.laws.what_spends_is_the_meaning.Goals as goal

pub returns-clause-expressions : goal.returns-clause-expressions
returns-clause-expressions c = λ core env e. comes_to core env e

pub returns-clause-results : goal.returns-clause-results
returns-clause-results c = λ core env res. (sound core res).means env

pub returns-clause-firings : goal.returns-clause-firings
returns-clause-firings c = λ core b order ins. fires core b order ins
