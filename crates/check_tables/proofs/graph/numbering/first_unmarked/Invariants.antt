use Rattle.check_tables.specs.graph.inner.Progress.{AllHit}
use Rattle.check_tables.proofs.graph.numbering.first_unmarked.Given as goal

abbrev pub invariant-loop-a : goal.invariant-loop-a
invariant-loop-a l = AllHit l.marks l.count l.from l.a
