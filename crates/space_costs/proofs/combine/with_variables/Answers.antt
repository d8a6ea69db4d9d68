use Rattle.space_costs.proofs.combine.with_variables.Goals as goal

pub returns : goal.returns
returns c = λ n m a p q r. c.above.ensures n _ p (c.both-2.ensures _ _ (c.instructions.ensures n p) (c.both.ensures _ _ r (c.instructions-2.ensures m q)))
