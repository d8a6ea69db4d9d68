use Rattle.std.proofs.Common.{◌≡◌, ◌+◌, ◌*◌, max, length, take}
use denote.Param.Weighed.{most}
use Rattle.hume_model.specs.declared.core_tree.Expr.{size-Expr}
use Rattle.hume_model.proofs.Ranks.{arms_size}
use Rattle.box_code.specs.Represents.{AllRepresent}
use Rattle.box_compile.specs.inner.Arms.{ArmsBegin}
use Rattle.box_compile.specs.inner.Emitted.{Emitted}
use Rattle.box_compile.specs.inner.Entries.{entry_in}
use Rattle.box_compile.proofs.Measures.{part_size}
use Rattle.box_compile.proofs.expressions.+expression.Given as goal

abbrev pub decreases-emit_expression : goal.decreases-emit_expression
decreases-emit_expression l = 5 * size-Expr l.e.now

abbrev pub decreases-emit_object : goal.decreases-emit_object
decreases-emit_object l = 5 * most size-Expr l.parts.now + 3

abbrev pub decreases-emit_operation : goal.decreases-emit_operation
decreases-emit_operation l = 5 * most size-Expr l.parts.now + 3

abbrev pub decreases-emit_call : goal.decreases-emit_call
decreases-emit_call l = 5 * most size-Expr l.parts.now + 3

abbrev pub decreases-emit_parts_then : goal.decreases-emit_parts_then
decreases-emit_parts_then l = 5 * most size-Expr l.parts.now + 2

abbrev pub decreases-emit_parts : goal.decreases-emit_parts
decreases-emit_parts l = 5 * most size-Expr l.parts.now + 1

abbrev pub decreases-emit_index : goal.decreases-emit_index
decreases-emit_index l = 5 * max (size-Expr l.vector.now) (size-Expr l.place.now) + 1

abbrev pub decreases-emit_update : goal.decreases-emit_update
decreases-emit_update l = 5 * max (size-Expr l.vector.now) (max (size-Expr l.place.now) (size-Expr l.item.now)) + 1

abbrev pub decreases-emit_choice : goal.decreases-emit_choice
decreases-emit_choice l = 5 * max (size-Expr l.test.now) (max (size-Expr l.when_true.now) (size-Expr l.when_false.now)) + 1

abbrev pub decreases-emit_binding : goal.decreases-emit_binding
decreases-emit_binding l = 5 * max (size-Expr l.part.now) (size-Expr l.body.now) + 1

abbrev pub decreases-emit_case : goal.decreases-emit_case
decreases-emit_case l = 5 * max (size-Expr l.part.now) (arms_size l.arms.now) + 3

abbrev pub decreases-emit_arms : goal.decreases-emit_arms
decreases-emit_arms l = 5 * arms_size l.arms.now + 2

abbrev pub decreases-emit_arm : goal.decreases-emit_arm
decreases-emit_arm l = 5 * size-Expr l.arm.now.1 + 1

abbrev pub invariant-emit_parts-loop-i : goal.invariant-emit_parts-loop-i
invariant-emit_parts-loop-i l = record {
  count : l.count ≡ length l.parts;
  stands : Emitted l.fn.writer l.writer (λ code from to. AllRepresent code (entry_in l.entries) l.places l.high from to (take l.i l.parts));
}

abbrev pub invariant-emit_arms-loop-arm : goal.invariant-emit_arms-loop-arm
invariant-emit_arms-loop-arm l =
    Emitted l.fn.writer l.writer (λ code from to. ArmsBegin code (entry_in l.entries) l.places l.high l.end from to (take l.arm-index l.arms))

abbrev pub decreases-emit_raise : goal.decreases-emit_raise
decreases-emit_raise l = 5 * part_size l.part.now + 1
