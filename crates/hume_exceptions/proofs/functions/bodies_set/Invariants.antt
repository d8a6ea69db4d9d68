use Rattle.hume_model.specs.declared.core_tree.EqC.{EqC}
use Rattle.hume_model.specs.Raising.{raises_with}
use Rattle.hume_exceptions.specs.Sets.{called_by}
use Rattle.hume_exceptions.proofs.SetSteps.{HasFirst}
use Rattle.hume_exceptions.proofs.functions.bodies_set.Given as goal

abbrev pub invariant-loop-equation : goal.invariant-loop-equation
invariant-loop-equation l = HasFirst (λ exn (equation : EqC). raises_with l.types (called_by l.called exn) exn equation.body) l.equations l.set l.equation-index
