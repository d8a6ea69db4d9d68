use Rattle.std.proofs.Common.{◌+◌, ◌*◌, ◌≤◌}
use Rattle.look_cores.proofs.known.+tree.Given as goal

abbrev pub decreases-tree : goal.decreases-tree
decreases-tree l = 2 * l.room.now

abbrev pub decreases-trees : goal.decreases-trees
decreases-trees l = 2 * l.room.now + 1

abbrev pub invariant-trees-loop-at : goal.invariant-trees-loop-at
invariant-trees-loop-at l = record { room : l.room ≤ l.fn.room }
