use Rattle.std.proofs.Common.{take, Contains}
use Rattle.check_tables.specs.graph.inner.Reversed.{LedBack}
use Rattle.check_tables.proofs.graph.reversed.lead_back.Given as goal

abbrev pub invariant-loop-b : goal.invariant-loop-b
invariant-loop-b l = LedBack l.fn.back l.back l.a (Contains (take l.b-index l.row))
