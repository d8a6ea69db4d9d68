use Rattle.hume_exceptions.proofs.FunctionSets.{AreSetsBelow}
use Rattle.hume_exceptions.proofs.functions.raises.Given as goal

abbrev pub invariant-loop-function : goal.invariant-loop-function
invariant-loop-function l = AreSetsBelow l.core l.function-index l.sets
