use Rattle.net_costs.proofs.Spent.{same_spent}
use Rattle.net_costs.proofs.laws.costs_depend_on_inputs_alone.Goals as goal

pub returns : goal.returns
returns c = same_spent
