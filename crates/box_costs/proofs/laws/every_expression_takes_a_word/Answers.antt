use Rattle.std.proofs.Common.{length}
use Rattle.box_costs.specs.Bounds.{bound_below}
use Rattle.box_costs.proofs.Within.{takes_word}
use Rattle.box_costs.proofs.laws.every_expression_takes_a_word.Goals as goal

pub returns : goal.returns
returns c = λ core e. takes_word (bound_below core (length core.funs)) e
