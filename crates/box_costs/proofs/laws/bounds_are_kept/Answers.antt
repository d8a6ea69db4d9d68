use Rattle.box_costs.proofs.Built.{is_built}
use Rattle.box_costs.proofs.Results.{sound}
use Rattle.box_costs.proofs.Rules.{rule_within, box_within}
use Rattle.box_costs.proofs.Within.{spends_within}
use Rattle.box_costs.proofs.laws.bounds_are_kept.Goals as goal

pub returns-clause-expressions : goal.returns-clause-expressions
returns-clause-expressions c = λ core env e. spends_within core env e

pub returns-clause-results : goal.returns-clause-results
returns-clause-results c = λ core env res. (sound core res).within env

pub returns-clause-inputs : goal.returns-clause-inputs
returns-clause-inputs c = λ types ty v is. is_built types ty v is

pub returns-clause-rules : goal.returns-clause-rules
returns-clause-rules c = λ core parts b typed number rule there ins are fit. rule_within core parts b typed number rule there ins are fit

pub returns-clause-boxes : goal.returns-clause-boxes
returns-clause-boxes c = λ core parts b typed ins are order. box_within core parts b typed ins are order
