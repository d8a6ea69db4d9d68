use Rattle.log_rounds.proofs.LawsOfLogs.{record_finishes, record_is_log}
use Rattle.log_rounds.proofs.LogPorts.{record_writes}
use Rattle.log_rounds.proofs.laws.records_are_logs.Goals as goal

pub returns-clause-log : goal.returns-clause-log
returns-clause-log c = λ core inputs log steps apart. record_is_log core log steps inputs apart

pub returns-clause-finishes : goal.returns-clause-finishes
returns-clause-finishes c = λ core inputs log steps. record_finishes core log steps inputs

pub returns-clause-writes : goal.returns-clause-writes
returns-clause-writes c = λ core inputs log steps name among. record_writes core inputs log steps name among
