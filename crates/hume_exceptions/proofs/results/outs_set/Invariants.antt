use Rattle.hume_model.specs.Raising.{may_raise, raises_if_there}
use Rattle.hume_exceptions.proofs.SetSteps.{HasFirst}
use Rattle.hume_exceptions.proofs.results.outs_set.Given as goal

abbrev pub invariant-loop-out : goal.invariant-loop-out
invariant-loop-out l = HasFirst (λ exn. raises_if_there (may_raise l.core exn)) l.outs l.set l.out-index
