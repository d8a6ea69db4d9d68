use Rattle.std.proofs.Common.{◌+◌, ◌*◌, max}
use denote.Param.Weighed.{most}
use Rattle.hume_model.specs.declared.core_tree.Res.{size-Res}
use Rattle.look_cores.proofs.gaps.+search_result.Given as goal

abbrev pub decreases-search_result : goal.decreases-search_result
decreases-search_result l = 2 * size-Res l.res.now

abbrev pub decreases-search_results : goal.decreases-search_results
decreases-search_results l = 2 * most (λ arm. max 0 (max (size-Res arm.1) 0)) l.arms.now + 1
