use Rattle.hume_run.proofs.Faulting.{check_written, demo_written, run_written}
use Rattle.hume_run.proofs.LogPorts.{record_written, verify_written}
use Rattle.hume_run.proofs.laws.calls_write_their_lines.Goals as goal

pub returns-clause-check : goal.returns-clause-check
returns-clause-check c = check_written

pub returns-clause-demo : goal.returns-clause-demo
returns-clause-demo c = demo_written

pub returns-clause-run : goal.returns-clause-run
returns-clause-run c = run_written c.runs_write_their_lines.ensures.writes

pub returns-clause-record : goal.returns-clause-record
returns-clause-record c core coming steps log = record_written core coming steps log

pub returns-clause-verify : goal.returns-clause-verify
returns-clause-verify c core coming steps log outcome =
    verify_written core coming steps log outcome (c.verified_runs_tell_one_line.ensures.writes core coming log steps outcome)
