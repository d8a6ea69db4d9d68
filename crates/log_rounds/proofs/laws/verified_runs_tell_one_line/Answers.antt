use Rattle.log_rounds.proofs.LawsOfLogs.{reads_quiet, verify_finishes, verify_writes}
use Rattle.log_rounds.proofs.laws.verified_runs_tell_one_line.Goals as goal

pub returns-clause-reads : goal.returns-clause-reads
returns-clause-reads c = λ core inputs log steps outcome. (reads_quiet core log steps inputs outcome).0

pub returns-clause-writes : goal.returns-clause-writes
returns-clause-writes c = λ core inputs log steps outcome. verify_writes core log steps inputs outcome

pub returns-clause-finishes : goal.returns-clause-finishes
returns-clause-finishes c = λ core inputs log steps outcome. verify_finishes core log steps inputs outcome
