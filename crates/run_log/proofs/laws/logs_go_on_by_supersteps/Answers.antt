use Rattle.run_log.proofs.Pieces.{log_begins, log_on}
use Rattle.run_log.proofs.laws.logs_go_on_by_supersteps.Goals as goal

pub returns-clause-start : goal.returns-clause-start
returns-clause-start c = λ core inputs. log_begins core inputs

pub returns-clause-on : goal.returns-clause-on
returns-clause-on c = λ core inputs steps. log_on core inputs steps
