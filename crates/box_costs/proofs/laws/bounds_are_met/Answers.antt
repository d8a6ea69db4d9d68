use Rattle.box_costs.proofs.Built.{is_built_alike}
use Rattle.box_costs.proofs.Exact.{spends_exactly}
use Rattle.box_costs.proofs.Results.{sound}
use Rattle.box_costs.proofs.Rules.{rule_exact}
use Rattle.box_costs.proofs.laws.bounds_are_met.Goals as goal

pub returns-clause-expressions : goal.returns-clause-expressions
returns-clause-expressions c = λ core e straight env v gives. (spends_exactly core e straight env).by v gives

pub returns-clause-results : goal.returns-clause-results
returns-clause-results c = λ core res straight env outs gives. ((sound core res).exact straight env).by outs gives

pub returns-clause-inputs : goal.returns-clause-inputs
returns-clause-inputs c = λ types ty v is one. is_built_alike types ty v is one

pub returns-clause-rules : goal.returns-clause-rules
returns-clause-rules c = λ core parts b typed number rule there way ins are fit. rule_exact core parts b typed number rule there ins are fit way
