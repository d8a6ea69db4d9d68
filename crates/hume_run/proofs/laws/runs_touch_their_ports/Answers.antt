use Rattle.hume_run.proofs.Touching.{run_reads_from, run_writes_to, run_finishes_each}
use Rattle.hume_run.proofs.laws.runs_touch_their_ports.Goals as goal

pub returns-clause-reads : goal.returns-clause-reads
returns-clause-reads c core coming traced steps = run_reads_from core coming traced steps (c.wants_stand_before_rounds.ensures core coming traced steps)

pub returns-clause-writes : goal.returns-clause-writes
returns-clause-writes c core = run_writes_to core c.runs_write_their_lines.ensures.writes

pub returns-clause-finishes : goal.returns-clause-finishes
returns-clause-finishes c core = run_finishes_each core c.runs_write_their_lines.ensures.finishes
