use Rattle.log_rounds.proofs.LogPorts.{record_reads, verify_reads_from}
use Rattle.log_rounds.proofs.laws.logged_runs_read_their_ports.Goals as goal

pub returns-clause-record : goal.returns-clause-record
returns-clause-record c = λ core inputs log steps before later name count is. record_reads core inputs log steps before later name count is

pub returns-clause-verify : goal.returns-clause-verify
returns-clause-verify c = λ core inputs log steps outcome before later name count is. verify_reads_from core inputs log steps outcome before later name count is
