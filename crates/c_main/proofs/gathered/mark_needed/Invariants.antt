use Rattle.std.proofs.Common.{◌≡◌, ◌≤◌, drop, length}
use Rattle.c_main.specs.inner.Marks.{reached}
use Rattle.c_main.proofs.gathered.mark_needed.Given as goal

abbrev pub invariant-loop-left : goal.invariant-loop-left
invariant-loop-left l = record {
  few : l.left ≤ length l.sums;
  behind : l.marks ≡ reached l.initial.marks l.left (drop l.left l.sums);
}

abbrev pub decreases-loop-left : goal.decreases-loop-left
decreases-loop-left l = l.left
