use Rattle.std.proofs.Common.{ℕ, ◌<◌, ◌≤◌}
use Rattle.check_tables.specs.graph.inner.Progress.{IsWait}
use Rattle.check_tables.proofs.graph.numbering.first_wait.Given as goal

abbrev pub invariant-loop-k : goal.invariant-loop-k
invariant-loop-k l = (h : ℕ) → l.from ≤ h → h < l.k → IsWait l.count l.marks l.row h → ⊥
