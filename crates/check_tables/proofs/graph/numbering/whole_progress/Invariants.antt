use Rattle.check_tables.specs.graph.inner.Progress.{IsProgress, unmarked}
use Rattle.check_tables.proofs.graph.numbering.whole_progress.Given as goal

abbrev pub decreases-loop-progress : goal.decreases-loop-progress
decreases-loop-progress l = unmarked l.progress.marks

abbrev pub invariant-loop-progress : goal.invariant-loop-progress
invariant-loop-progress l = IsProgress l.graph l.progress
