use Rattle.std.proofs.Common.{false}
use Rattle.hume_calls.specs.Unions.{union_core}
use Rattle.call_laws.proofs.OtherLines.{union_finishes, union_reads, union_writes}
use Rattle.call_laws.proofs.lines.unions_touch_their_ports.Goals as goal

pub returns-clause-reads : goal.returns-clause-reads
returns-clause-reads c sources further programs coming steps name =
    union_reads sources further programs coming steps (c.wants_stand_before_rounds.ensures (union_core programs) coming false steps) name

pub returns-clause-writes : goal.returns-clause-writes
returns-clause-writes c sources further programs coming steps name =
    union_writes sources further programs coming steps (c.calls_write_their_lines.ensures.run (union_core programs) coming false steps)
    (c.runs_touch_their_ports.ensures.writes (union_core programs) coming false steps) name

pub returns-clause-finishes : goal.returns-clause-finishes
returns-clause-finishes c sources further programs coming steps =
    union_finishes sources further programs coming steps (c.runs_write_their_lines.ensures.finishes (union_core programs) coming false steps)
