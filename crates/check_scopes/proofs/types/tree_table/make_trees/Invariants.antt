use Rattle.std.proofs.Common.{◌≡◌, length}
use Rattle.check_scopes.specs.types.Nodes.{types_of, Grows}
use Rattle.check_scopes.proofs.types.tree_table.make_trees.Given as goal

abbrev pub invariant-loop-made : goal.invariant-loop-made
invariant-loop-made l = Grows l.trees.items (types_of l.nodes) × (length l.trees.items ≡ l._made)
