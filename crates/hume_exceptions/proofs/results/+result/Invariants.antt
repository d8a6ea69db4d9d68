use Rattle.std.proofs.Common.{◌+◌, ◌*◌, max}
use denote.Param.Weighed.{most}
use Rattle.hume_model.specs.declared.core_tree.PatC.{PatC}
use Rattle.hume_model.specs.declared.core_tree.Res.{Res, size-Res}
use Rattle.hume_model.specs.Raising.{result_may_raise}
use Rattle.hume_exceptions.proofs.SetSteps.{HasFirst}
use Rattle.hume_exceptions.proofs.results.+result.Given as goal

abbrev pub decreases-arms_set : goal.decreases-arms_set
decreases-arms_set l = 2 * most (λ arm. max 0 (max (size-Res arm.1) 0)) l.arms.now + 1

abbrev pub decreases-result_may_raise : goal.decreases-result_may_raise
decreases-result_may_raise l = 2 * size-Res l.res.now

abbrev pub invariant-arms_set-loop-arm : goal.invariant-arms_set-loop-arm
invariant-arms_set-loop-arm l = HasFirst (λ exn (arm : PatC × Res). result_may_raise l.core exn arm.1) l.arms l.set l.arm-index
