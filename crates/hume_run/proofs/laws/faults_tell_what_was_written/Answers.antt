use Rattle.hume_run.proofs.Faulting.{all_was_written, all_was_written_alone, nothing_was_written}
use Rattle.hume_run.proofs.laws.faults_tell_what_was_written.Goals as goal

pub returns-clause-finishes : goal.returns-clause-finishes
returns-clause-finishes c = all_was_written c.runs_write_their_lines.ensures.finishes (record {
  record_finishes = c.records_are_logs.ensures.finishes;
  verify_finishes = c.verified_runs_tell_one_line.ensures.finishes;
  unwritten = c.verified_runs_tell_one_line.ensures.reads;
  reads = c.logged_runs_read_their_ports.ensures.record;
})

pub returns-clause-source : goal.returns-clause-source
returns-clause-source c = nothing_was_written c.wants_stand_before_rounds.ensures (record {
  record_finishes = c.records_are_logs.ensures.finishes;
  verify_finishes = c.verified_runs_tell_one_line.ensures.finishes;
  unwritten = c.verified_runs_tell_one_line.ensures.reads;
  reads = c.logged_runs_read_their_ports.ensures.record;
})

pub returns-clause-alone : goal.returns-clause-alone
returns-clause-alone c = all_was_written_alone c.runs_write_their_lines.ensures.finishes (record {
  record_finishes = c.records_are_logs.ensures.finishes;
  verify_finishes = c.verified_runs_tell_one_line.ensures.finishes;
  unwritten = c.verified_runs_tell_one_line.ensures.reads;
  reads = c.logged_runs_read_their_ports.ensures.record;
})
