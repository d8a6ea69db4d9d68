use Rattle.std.proofs.Common.{◌≡◌, ◌++◌, map, drop}
use Rattle.check_names.proofs.declared.push_constructors.Given as goal

abbrev pub invariant-loop-constructor : goal.invariant-loop-constructor
invariant-loop-constructor l = l.names ++ map (λ constructor. constructor.0) (drop l.constructor-index l.constructors) ≡ l.fn.names ++ map (λ constructor. constructor.0) l.constructors
