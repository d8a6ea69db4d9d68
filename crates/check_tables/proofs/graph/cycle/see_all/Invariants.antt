use Rattle.std.proofs.Common.{length, take}
use Rattle.check_tables.specs.graph.inner.Search.{IsListed, Grows}
use Rattle.check_tables.proofs.graph.cycle.see_all.Given as goal

abbrev pub invariant-loop-b : goal.invariant-loop-b
invariant-loop-b l = Grows l.fn.marks.items l.fn.seen.items l.marks.items l.seen.items (IsListed (length l.fn.marks.items) (take l.b-index l.row))
