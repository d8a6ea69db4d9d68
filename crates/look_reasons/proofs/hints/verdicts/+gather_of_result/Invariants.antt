use Rattle.std.proofs.Common.{◌+◌, ◌*◌, max}
use denote.Param.Weighed.{most}
use Rattle.hume_model.specs.declared.core_tree.Res.{size-Res}
use Rattle.look_reasons.proofs.hints.verdicts.+gather_of_result.Given as goal

abbrev pub decreases-gather_of_result : goal.decreases-gather_of_result
decreases-gather_of_result l = 2 * size-Res l.res.now

abbrev pub decreases-gather_results : goal.decreases-gather_results
decreases-gather_results l = 2 * most (λ arm. max 0 (max (size-Res arm.1) 0)) l.arms.now + 1
