use Rattle.space_costs.proofs.FunctionCosts.{AreCostsBelow}
use Rattle.space_costs.proofs.functions.function_costs.Given as goal

abbrev pub invariant-loop-function : goal.invariant-loop-function
invariant-loop-function l = AreCostsBelow l.core l.function-index l.costs
