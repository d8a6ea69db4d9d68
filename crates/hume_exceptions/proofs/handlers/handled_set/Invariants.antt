use Rattle.std.proofs.Common.{◌==◌}
use Rattle.hume_model.specs.declared.core_tree.HandC.{HandC}
use Rattle.hume_exceptions.proofs.SetSteps.{HasFirst}
use Rattle.hume_exceptions.proofs.handlers.handled_set.Given as goal

abbrev pub invariant-loop-handler : goal.invariant-loop-handler
invariant-loop-handler l = HasFirst (λ exn (handler : HandC). handler.exn == exn) l.handlers l.set l.handler-index
