use Rattle.check_tables.specs.graph.inner.Reversed.{IsReversed}
use Rattle.check_tables.proofs.graph.reversed.reversed.Given as goal

abbrev pub invariant-loop-a : goal.invariant-loop-a
invariant-loop-a l = IsReversed l.graph l.a l.back
