use Rattle.std.proofs.Common.{◌≡◌, length, map, take}
use Rattle.check_scopes.specs.types.Nodes.{type_at, all_below}
use Rattle.check_scopes.proofs.types.tree_table.parts_of.Given as goal

abbrev pub invariant-loop-number : goal.invariant-loop-number
invariant-loop-number l = (l.parts ≡ map (type_at l.trees) (take l.number-index l.numbers)) × all_below (length l.trees) (take l.number-index l.numbers)
