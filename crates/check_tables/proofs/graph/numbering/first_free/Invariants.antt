use Rattle.std.proofs.Common.{ℕ, ◌<◌, ◌≤◌}
use Rattle.check_tables.specs.graph.inner.Progress.{IsFree}
use Rattle.check_tables.proofs.graph.numbering.first_free.Given as goal

abbrev pub invariant-loop-a : goal.invariant-loop-a
invariant-loop-a l = (h : ℕ) → l.from ≤ h → h < l.a → IsFree l.marks l.waits h → ⊥
