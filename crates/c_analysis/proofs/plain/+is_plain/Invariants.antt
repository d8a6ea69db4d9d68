use Rattle.std.proofs.Common.{◌+◌, ◌*◌, ◌≡◌, drop, map}
use denote.Param.Weighed.{most}
use Rattle.typed_core.specs.declared.typed_tree.TypedExpr.{size-TypedExpr}
use Rattle.c_analysis.specs.Plain.{all_plain, arguments_plain, plain_step}
use Rattle.c_analysis.specs.Seen.{seen}
use Rattle.c_analysis.specs.Targets.{known, target}
use Rattle.c_analysis.proofs.plain.+is_plain.Given as goal

abbrev pub decreases-is_plain : goal.decreases-is_plain
decreases-is_plain l = 4 * size-TypedExpr l.e.now

abbrev pub decreases-argument_is_plain : goal.decreases-argument_is_plain
decreases-argument_is_plain l = 4 * size-TypedExpr l.part.now + 1

abbrev pub decreases-are_plain : goal.decreases-are_plain
decreases-are_plain l = 4 * most size-TypedExpr l.parts.now + 1

abbrev pub decreases-operation_is_plain : goal.decreases-operation_is_plain
decreases-operation_is_plain l = 4 * most size-TypedExpr l.parts.now + 2

abbrev pub decreases-arguments_are_plain : goal.decreases-arguments_are_plain
decreases-arguments_are_plain l = 4 * most size-TypedExpr l.parts.now + 2

abbrev pub decreases-call_is_plain : goal.decreases-call_is_plain
decreases-call_is_plain l = 4 * most size-TypedExpr l.parts.now + 3

abbrev pub invariant-are_plain-loop-part : goal.invariant-are_plain-loop-part
invariant-are_plain-loop-part l =
    all_plain l.of (map (seen (plain_step (target l.s))) (drop l.part-index l.parts)) ≡ all_plain l.of (map (seen (plain_step (target l.s))) l.parts)

abbrev pub invariant-arguments_are_plain-loop-place : goal.invariant-arguments_are_plain-loop-place
invariant-arguments_are_plain-loop-place l =
    arguments_plain (target l.s) (known l.callee) l.place (map (seen (plain_step (target l.s))) (drop l.place l.parts))
    ≡ arguments_plain (target l.s) (known l.callee) 0 (map (seen (plain_step (target l.s))) l.parts)
