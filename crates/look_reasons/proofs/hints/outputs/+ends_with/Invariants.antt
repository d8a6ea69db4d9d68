use Rattle.std.proofs.Common.{◌+◌, ◌*◌, max}
use denote.Param.Weighed.{most}
use Rattle.hume_model.specs.declared.core_tree.Res.{size-Res}
use Rattle.look_reasons.proofs.hints.outputs.+ends_with.Given as goal

abbrev pub decreases-arms_end_with : goal.decreases-arms_end_with
decreases-arms_end_with l = 2 * most (λ arm. max 0 (max (size-Res arm.1) 0)) l.arms.now + 1

abbrev pub decreases-ends_with : goal.decreases-ends_with
decreases-ends_with l = 2 * size-Res l.res.now
