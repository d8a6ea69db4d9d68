use Rattle.std.proofs.Common.{◌≡◌, ◌+◌, ◌*◌, ◌||◌, drop, map, max, slice_get}
use denote.Param.Weighed.{most}
use Rattle.typed_core.specs.declared.typed_tree.TypedExpr.{size-TypedExpr}
use Rattle.c_analysis.specs.Raises.{arms_complete}
use Rattle.c_analysis.specs.Targets.{target}
use Rattle.c_analysis.specs.inner.Marks.{arguments_mark, arm_seen, arms_mark, parts_mark, seen_marks}
use Rattle.c_analysis.proofs.uses.+mark_used.Given as goal

abbrev pub decreases-set_marks : goal.decreases-set_marks
decreases-set_marks l = 4 * size-TypedExpr l.e.now

abbrev pub decreases-mark_needed : goal.decreases-mark_needed
decreases-mark_needed l = 4 * size-TypedExpr l.part.now + 1

abbrev pub decreases-mark_two : goal.decreases-mark_two
decreases-mark_two l = 4 * (max (size-TypedExpr l.first.now) (size-TypedExpr l.second.now)) + 1

abbrev pub decreases-mark_three : goal.decreases-mark_three
decreases-mark_three l = 4 * (max (size-TypedExpr l.first.now) (max (size-TypedExpr l.second.now) (size-TypedExpr l.third.now))) + 2

abbrev pub decreases-mark_parts : goal.decreases-mark_parts
decreases-mark_parts l = 4 * most size-TypedExpr l.parts.now + 1

abbrev pub decreases-mark_arguments : goal.decreases-mark_arguments
decreases-mark_arguments l = 4 * most size-TypedExpr l.parts.now + 2

abbrev pub decreases-mark_arm : goal.decreases-mark_arm
decreases-mark_arm l = 4 * size-TypedExpr l.arm.now.1 + 1

abbrev pub decreases-mark_arms : goal.decreases-mark_arms
decreases-mark_arms l = 4 * most (λ arm. max 0 (max (size-TypedExpr arm.1) 0)) l.arms.now + 2

abbrev pub decreases-mark_case : goal.decreases-mark_case
decreases-mark_case l = 4 * (max (size-TypedExpr l.part.now) (most (λ arm. max 0 (max (size-TypedExpr arm.1) 0)) l.arms.now)) + 3

abbrev pub decreases-mark_let : goal.decreases-mark_let
decreases-mark_let l = 4 * (max (size-TypedExpr l.part.now) (size-TypedExpr l.body.now)) + 2

abbrev pub invariant-mark_parts-loop-part : goal.invariant-mark_parts-loop-part
invariant-mark_parts-loop-part l =
    parts_mark (map (seen_marks (target l.s)) (drop l.part-index l.parts)) l.used.items ≡ parts_mark (map (seen_marks (target l.s)) l.parts) l.initial.used.items

abbrev pub invariant-mark_arguments-loop-place : goal.invariant-mark_arguments-loop-place
invariant-mark_arguments-loop-place l =
    arguments_mark (target l.s) (slice_get (target l.s).called l.function) l.place (map (seen_marks (target l.s)) (drop l.place l.parts)) l.used.items
    ≡ arguments_mark (target l.s) (slice_get (target l.s).called l.function) 0 (map (seen_marks (target l.s)) l.parts) l.initial.used.items

abbrev pub invariant-mark_arms-loop-place : goal.invariant-mark_arms-loop-place
invariant-mark_arms-loop-place l =
    let rest = arms_mark (target l.s) l.of l.complete (map (arm_seen (target l.s)) (drop l.place l.arms)) l.used.items in
    let all = arms_mark (target l.s) l.of l.complete (map (arm_seen (target l.s)) l.arms) l.initial.used.items in
    record {
      marks : rest.marks ≡ all.marks;
      object : (l.looked_at || rest.object) ≡ all.object;
      complete : l.complete ≡ arms_complete (target l.s) l.of l.arms;
    }
