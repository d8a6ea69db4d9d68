use Rattle.std.proofs.Common.{◌≡◌, ℕ, ◌<◌, ◌-◌, length}
use Rattle.check_tables.specs.graph.Orders.{IsNext}
use Rattle.check_tables.specs.graph.inner.Progress.{IsProgress}
use Rattle.check_tables.proofs.graph.numbering.next_node.Given as goal

abbrev pub decreases-loop-a : goal.decreases-loop-a
decreases-loop-a l = length l.graph - l.from

abbrev pub invariant-loop-a : goal.invariant-loop-a
invariant-loop-a l = record {
  progress : IsProgress l.graph l.progress;
  order : l.progress.order ≡ l.fn.progress.order;
  marks : l.progress.marks ≡ l.fn.progress.marks;
  none : (h : ℕ) → h < l.from → IsNext l.graph l.fn.progress.order h → ⊥;
}
