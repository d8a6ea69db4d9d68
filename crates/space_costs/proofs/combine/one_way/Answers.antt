use Rattle.std.proofs.Common.{refl}
use Rattle.space_costs.proofs.combine.one_way.Goals as goal

pub returns : goal.returns
returns c = λ n a p q. c.both.ensures _ _ (c.instructions.ensures n p) (c.either.ensures _ _ (c.instructions-2.ensures 1 refl) q)
