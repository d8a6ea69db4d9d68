use Rattle.std.proofs.Common.{◌≡◌, replicate}
use Rattle.hume_model.specs.declared.core_tree.PatC.TheVariants.{Var as VarPattern}
use Rattle.box_calculus.proofs.naming.variable_patterns.Given as goal

abbrev pub invariant-loop : goal.invariant-loop
invariant-loop l = l.pats ≡ replicate l.counter VarPattern
