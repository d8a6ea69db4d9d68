use Rattle.std.proofs.Common.{◌≡◌, ◌++◌, drop, map}
use Rattle.calculus_laws.specs.VariableTypes.{parts_bind, pattern_binds}
use Rattle.box_calculus.proofs.variables.+pattern_variables.Given as goal

abbrev pub invariant-all_variables-loop-i : goal.invariant-all_variables-loop-i
invariant-all_variables-loop-i l =
    l.all ++ parts_bind (map (pattern_binds l.types) (drop l.i l.parts)) (drop l.i l.tys) ≡ parts_bind (map (pattern_binds l.types) l.parts) l.tys
