use Rattle.run_rounds.proofs.LawsOfActs.{run_writes, run_finishes}
use Rattle.run_rounds.proofs.laws.runs_write_their_lines.Goals as goal

pub returns-clause-writes : goal.returns-clause-writes
returns-clause-writes c core inputs traced steps = run_writes core inputs traced steps

pub returns-clause-finishes : goal.returns-clause-finishes
returns-clause-finishes c core inputs traced steps = run_finishes core inputs traced steps
