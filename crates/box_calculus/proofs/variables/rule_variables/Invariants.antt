use Rattle.std.proofs.Common.{◌≡◌, ◌++◌, drop}
use Rattle.hume_model.specs.BoxTyping.{port_types}
use Rattle.calculus_laws.specs.VariableTypes.{rule_binds}
use Rattle.box_calculus.proofs.variables.rule_variables.Given as goal

abbrev pub invariant-loop-i : goal.invariant-loop-i
invariant-loop-i l = l.tys ++ rule_binds l.types (drop l.i l.pats) (port_types (drop l.i l.ins)) ≡ rule_binds l.types l.pats (port_types l.ins)
