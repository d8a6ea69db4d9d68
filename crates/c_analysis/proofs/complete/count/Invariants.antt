use Rattle.std.proofs.Common.{◌≡◌, ◌+◌, ◌≤◌, drop, length}
use Rattle.std.specs.List.{filter_map}
use Rattle.c_analysis.proofs.complete.count.Given as goal

abbrev pub invariant-loop-item : goal.invariant-loop-item
invariant-loop-item g l = record {
  all : l.count + length (filter_map g.A.Alternative.pattern (drop l.item-index l.items)) ≡ length (filter_map g.A.Alternative.pattern l.items);
  few : l.count ≤ l.item-index;
}
