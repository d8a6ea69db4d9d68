use Rattle.std.proofs.Common.{◌≡◌, ◌++◌, drop}
use Rattle.std.specs.List.{filter_map}
use Rattle.hume_check.specs.inner.CoreTrees.{slot_at}
use Rattle.hume_check.proofs.core_trees.in_order.Given as goal

-- what was found and what is left are what was there
abbrev pub invariant-loop-number : goal.invariant-loop-number
invariant-loop-number l = l.found ++ filter_map (slot_at l.slots.items) (drop l.number-index l.order) ≡ filter_map (slot_at l.fn.equations) l.order
