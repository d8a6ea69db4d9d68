use Rattle.std.proofs.Common.{◌≡◌, ◌+◌, sum, take}
use Rattle.net_union.proofs.owners.owner.Given as goal

abbrev pub invariant-loop-size : goal.invariant-loop-size
invariant-loop-size l = (l.rest + sum (take l.size-index l.sizes) ≡ l.fn.node) × (l.place ≡ l.size-index)
