use Rattle.run_log.specs.inner.Forgetting.{HaveForgotten}
use Rattle.run_log.proofs.forgetting.forget_taken.Given as goal

abbrev pub invariant-loop-node : goal.invariant-loop-node
invariant-loop-node l = HaveForgotten l.initial.engine l.engine l.node
