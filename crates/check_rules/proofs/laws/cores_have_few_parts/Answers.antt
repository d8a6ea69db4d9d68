use Rattle.check_rules.proofs.CountsWithin.{nodes_within, wires_within, exceptions_within}
use Rattle.check_rules.proofs.FunctionsWithin.{functions_within}
use Rattle.check_rules.proofs.WordsWithin.{words_within}
use Rattle.check_rules.proofs.laws.cores_have_few_parts.Goals as goal

pub returns-clause-functions : goal.returns-clause-functions
returns-clause-functions c text program core fine p = functions_within text program core fine p

pub returns-clause-nodes : goal.returns-clause-nodes
returns-clause-nodes c text program core fine p = nodes_within text program core fine p

pub returns-clause-wires : goal.returns-clause-wires
returns-clause-wires c text program core fine p = wires_within text program core fine p

pub returns-clause-exceptions : goal.returns-clause-exceptions
returns-clause-exceptions c text program core fine p = exceptions_within text program core fine p

pub returns-clause-words : goal.returns-clause-words
returns-clause-words c text program core fine p = words_within text program core fine p
