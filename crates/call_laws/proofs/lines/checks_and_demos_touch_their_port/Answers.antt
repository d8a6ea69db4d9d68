use Rattle.std.proofs.Common.{◌∷◌}
use Rattle.demo_rounds.specs.Chains.{demo_lines}
use Rattle.trace_print.specs.table.Table.{space_table, total_line_of}
use Rattle.call_laws.proofs.OtherLines.{telling_finishes, telling_reads, telling_writes}
use Rattle.call_laws.proofs.lines.checks_and_demos_touch_their_port.Goals as goal

pub returns-clause-check_reads : goal.returns-clause-check_reads
returns-clause-check_reads c core = telling_reads (space_table core)

pub returns-clause-check_writes : goal.returns-clause-check_writes
returns-clause-check_writes c core = telling_writes (space_table core)

pub returns-clause-check_finishes : goal.returns-clause-check_finishes
returns-clause-check_finishes c core = telling_finishes (space_table core)

pub returns-clause-demo_reads : goal.returns-clause-demo_reads
returns-clause-demo_reads c core steps = telling_reads (total_line_of core ∷ demo_lines core steps)

pub returns-clause-demo_writes : goal.returns-clause-demo_writes
returns-clause-demo_writes c core steps = telling_writes (total_line_of core ∷ demo_lines core steps)

pub returns-clause-demo_finishes : goal.returns-clause-demo_finishes
returns-clause-demo_finishes c core steps = telling_finishes (total_line_of core ∷ demo_lines core steps)
