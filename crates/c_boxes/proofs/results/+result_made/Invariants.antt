use Rattle.std.proofs.Common.{◌≡◌, ◌+◌, ◌*◌, max, drop, map}
use denote.Param.Weighed.{most}
use Rattle.typed_core.specs.declared.typed_tree.TypedResult.{size-TypedResult}
use Rattle.c_analysis.specs.Targets.{target}
use Rattle.c_expressions.specs.inner.Ways.{ways_before}
use Rattle.c_boxes.specs.Results.{arms_made}
use Rattle.c_boxes.specs.inner.Arms.{arm_given}
use Rattle.c_boxes.proofs.results.+result_made.Given as goal

abbrev pub decreases-result_made : goal.decreases-result_made
decreases-result_made l = 8 * size-TypedResult l.it.now

abbrev pub decreases-sides_made : goal.decreases-sides_made
decreases-sides_made l = 8 * max (size-TypedResult l.first.now) (size-TypedResult l.second.now) + 1

abbrev pub decreases-if_made : goal.decreases-if_made
decreases-if_made l = 8 * max (size-TypedResult l.first.now) (size-TypedResult l.second.now) + 2

abbrev pub decreases-let_made : goal.decreases-let_made
decreases-let_made l = 8 * size-TypedResult l.body.now + 1

abbrev pub decreases-arm_way : goal.decreases-arm_way
decreases-arm_way l = 8 * size-TypedResult l.arm.now.1 + 1

abbrev pub decreases-arms_made : goal.decreases-arms_made
decreases-arms_made l = 8 * most (λ arm. max 0 (max (size-TypedResult arm.1) 0)) l.arms.now + 2

abbrev pub decreases-arms_behind : goal.decreases-arms_behind
decreases-arms_behind l = 8 * most (λ arm. max 0 (max (size-TypedResult arm.1) 0)) l.arms.now + 3

abbrev pub decreases-case_made : goal.decreases-case_made
decreases-case_made l = 8 * most (λ arm. max 0 (max (size-TypedResult arm.1) 0)) l.arms.now + 4

abbrev pub invariant-arms_made-loop-place : goal.invariant-arms_made-loop-place
invariant-arms_made-loop-place l = record {
  made : ways_before l.ways (arms_made (target l.s) l.of l.object l.complete (map (arm_given (target l.s)) (drop l.place l.arms)) l.b l.initial.scope l.next)
      ≡ arms_made (target l.s) l.of l.object l.complete (map (arm_given (target l.s)) l.arms) l.b l.initial.scope l.initial.next;
  scope : l.scope ≡ l.initial.scope;
}
