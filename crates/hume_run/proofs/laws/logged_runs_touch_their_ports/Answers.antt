use Rattle.hume_run.proofs.LogPorts.{record_finished, record_reads_from, record_writes_to, verify_finished, verify_reads_from}
use Rattle.hume_run.proofs.laws.logged_runs_touch_their_ports.Goals as goal

pub returns-clause-record_reads : goal.returns-clause-record_reads
returns-clause-record_reads c core coming steps log = record_reads_from core coming steps log c.logged_runs_read_their_ports.ensures.record

pub returns-clause-record_writes : goal.returns-clause-record_writes
returns-clause-record_writes c core coming steps log = record_writes_to core coming steps log (c.records_are_logs.ensures.writes core coming log steps)

pub returns-clause-record_finishes : goal.returns-clause-record_finishes
returns-clause-record_finishes c core coming steps log = record_finished core coming steps log (c.records_are_logs.ensures.finishes core coming log steps)

pub returns-clause-verify_reads : goal.returns-clause-verify_reads
returns-clause-verify_reads c core coming steps log name outcome =
    verify_reads_from core coming steps log c.logged_runs_read_their_ports.ensures.verify outcome name

pub returns-clause-verify_finishes : goal.returns-clause-verify_finishes
returns-clause-verify_finishes c core coming steps log outcome =
    verify_finished core coming steps log outcome (c.verified_runs_tell_one_line.ensures.finishes core coming log steps outcome)
