use Rattle.std.proofs.Common.{◌+◌, ◌*◌, max}
use denote.Param.Weighed.{most}
use Rattle.hume_model.specs.declared.core_tree.Res.{size-Res}
use Rattle.look_cores.proofs.result_bounds.+result.Given as goal

abbrev pub decreases-arms_bound : goal.decreases-arms_bound
decreases-arms_bound l = 2 * most (λ arm. max 0 (max (size-Res arm.1) 0)) l.arms.now + 1

abbrev pub decreases-part_bound : goal.decreases-part_bound
decreases-part_bound l = 2 * size-Res l.part.now + 1

abbrev pub decreases-result_bound : goal.decreases-result_bound
decreases-result_bound l = 2 * size-Res l.res.now
