use Rattle.std.proofs.Common.{◌≡◌, ◌++◌, drop, map}
use Rattle.c_functions.proofs.RaisingSteps.{is_some}
use Rattle.c_functions.proofs.raising.functions_raise.Given as goal

abbrev pub invariant-loop-set : goal.invariant-loop-set
invariant-loop-set l = l.all ++ map is_some (drop l.set-index l.set-items) ≡ map is_some l.raises
