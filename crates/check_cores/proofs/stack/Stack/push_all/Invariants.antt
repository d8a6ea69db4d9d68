use Rattle.std.proofs.Common.{◌≡◌, ◌++◌, ◌≤◌, drop, length}
use Rattle.check_cores.proofs.stack.Stack.push_all.Given as goal

abbrev pub invariant-loop-left : goal.invariant-loop-left
invariant-loop-left g l = (l.left ≤ length l.items) × (l.self ≡ drop l.left l.items ++ l.fn.self)

abbrev pub decreases-loop-left : goal.decreases-loop-left
decreases-loop-left g l = l.left
