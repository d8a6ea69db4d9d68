use Rattle.std.proofs.Common.{◌+◌, ◌-◌, length}
use Rattle.check_tables.specs.graph.inner.Progress.{unmarked}
use Rattle.check_tables.specs.graph.inner.Search.{IsSearched}
use Rattle.check_tables.proofs.graph.cycle.is_in_cycle.Given as goal

abbrev pub decreases-loop-at : goal.decreases-loop-at
decreases-loop-at l = unmarked l.marks.items + length l.seen.items - l.at

abbrev pub invariant-loop-at : goal.invariant-loop-at
invariant-loop-at l = IsSearched l.graph l.f l.at l.marks.items l.seen.items
