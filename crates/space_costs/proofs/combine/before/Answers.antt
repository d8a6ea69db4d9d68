use Rattle.std.proofs.Common.{refl}
use Rattle.space_costs.proofs.combine.before.Goals as goal

pub returns : goal.returns
returns c = λ a b p q. c.both.ensures _ _ p (c.above.ensures 1 _ refl q)
