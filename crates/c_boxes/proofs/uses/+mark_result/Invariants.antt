use Rattle.std.proofs.Common.{◌≡◌, ◌+◌, ◌*◌, ◌||◌, max, drop, map}
use denote.Param.Weighed.{most}
use Rattle.typed_core.specs.declared.typed_tree.TypedResult.{size-TypedResult}
use Rattle.c_analysis.specs.Raises.{arms_complete}
use Rattle.c_analysis.specs.Targets.{target}
use Rattle.c_boxes.specs.Marks.{arms_mark}
use Rattle.c_boxes.specs.Results.{arm_mark}
use Rattle.c_boxes.specs.inner.Arms.{arm_given}
use Rattle.c_boxes.proofs.uses.+mark_result.Given as goal

abbrev pub decreases-mark_result : goal.decreases-mark_result
decreases-mark_result l = 4 * size-TypedResult l.it.now

abbrev pub decreases-mark_choice : goal.decreases-mark_choice
decreases-mark_choice l = 4 * max (size-TypedResult l.first.now) (size-TypedResult l.second.now) + 1

abbrev pub decreases-mark_let : goal.decreases-mark_let
decreases-mark_let l = 4 * size-TypedResult l.body.now + 1

abbrev pub decreases-mark_arm : goal.decreases-mark_arm
decreases-mark_arm l = 4 * size-TypedResult l.arm.now.1 + 1

abbrev pub decreases-mark_arms : goal.decreases-mark_arms
decreases-mark_arms l = 4 * most (λ arm. max 0 (max (size-TypedResult arm.1) 0)) l.arms.now + 2

abbrev pub decreases-mark_case : goal.decreases-mark_case
decreases-mark_case l = 4 * most (λ arm. max 0 (max (size-TypedResult arm.1) 0)) l.arms.now + 3

abbrev pub invariant-mark_arms-loop-place : goal.invariant-mark_arms-loop-place
invariant-mark_arms-loop-place l =
    let rest = arms_mark (target l.s) l.of l.complete (map arm_mark (map (arm_given (target l.s)) (drop l.place l.arms))) l.used.items in
    let all = arms_mark (target l.s) l.of l.complete (map arm_mark (map (arm_given (target l.s)) l.arms)) l.initial.used.items in
    record {
      marks : rest.marks ≡ all.marks;
      object : (l.looked_at || rest.object) ≡ all.object;
      complete : l.complete ≡ arms_complete (target l.s) l.of l.arms;
    }
