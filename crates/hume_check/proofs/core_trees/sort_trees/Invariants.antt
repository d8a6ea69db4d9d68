use Rattle.std.proofs.Common.{◌≡◌, map}
use Rattle.std.specs.List.{filter_map}
use Rattle.hume_check.specs.inner.CoreTrees.{box_trees_of, equations_of}
use Rattle.hume_check.proofs.core_trees.sort_trees.Given as goal

abbrev pub invariant-loop-trees : goal.invariant-loop-trees
invariant-loop-trees l = record {
  equations : l.sorted.equations ≡ map equations_of l.yielded;
  boxes : l.sorted.boxes ≡ filter_map box_trees_of l.yielded;
}
