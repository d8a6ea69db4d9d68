use Rattle.std.proofs.Common.{◌≡◌, ◌+◌, ◌*◌, max, take, map}
use denote.Param.Weighed.{most}
use Rattle.hume_model.specs.declared.core_tree.PatC.{PatC}
use Rattle.hume_model.specs.declared.core_tree.Res.{Res, size-Res}
use Rattle.union_laws.specs.Moving.{moved_result}
use Rattle.std.specs.Prelude.{IfOk}
use Rattle.net_union.proofs.results.+move_result.Given as goal

abbrev pub decreases-move_result : goal.decreases-move_result
decreases-move_result l = 4 * size-Res l.given.now

abbrev pub decreases-move_if : goal.decreases-move_if
decreases-move_if l = 4 * max (size-Res l.when_true.now) (size-Res l.when_false.now) + 2

abbrev pub decreases-move_case : goal.decreases-move_case
decreases-move_case l = 4 * most (λ arm. max 0 (max (size-Res arm.1) 0)) l.arms.now + 2

abbrev pub decreases-move_let : goal.decreases-move_let
decreases-move_let l = 4 * size-Res l.body.now + 2

abbrev pub decreases-move_part : goal.decreases-move_part
decreases-move_part l = 4 * size-Res l.part.now + 1

abbrev pub decreases-move_arms : goal.decreases-move_arms
decreases-move_arms l = 4 * most (λ arm. max 0 (max (size-Res arm.1) 0)) l.arms.now + 1

abbrev pub invariant-move_arms-loop-arm : goal.invariant-move_arms-loop-arm
invariant-move_arms-loop-arm l = IfOk l.higher (λ made. made ≡ map (λ (arm : PatC × Res). (arm.0, moved_result l.fn.moves arm.1)) (take l.arm-index l.arms))
