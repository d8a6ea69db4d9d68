use Rattle.std.proofs.Common.{◌≡◌, ◌+◌, ◌*◌, max, drop}
use denote.Param.Weighed.{most}
use Rattle.typed_core.specs.declared.typed_tree.TypedExpr.{size-TypedExpr}
use Rattle.c_types.specs.Gathered.{gathered}
use Rattle.c_told.specs.Told.{with_all}
use Rattle.c_told.specs.inner.Several.{expressions_tell}
use Rattle.c_told.specs.inner.Arms.{arms_tell}
use Rattle.c_told.proofs.told.+add_expression.Given as goal

abbrev pub decreases-add_expression : goal.decreases-add_expression
decreases-add_expression l = 2 * size-TypedExpr l.e.now

abbrev pub decreases-add_expressions : goal.decreases-add_expressions
decreases-add_expressions l = 2 * most size-TypedExpr l.parts.now + 1

abbrev pub decreases-add_arms : goal.decreases-add_arms
decreases-add_arms l = 2 * most (λ arm. max 0 (max (size-TypedExpr arm.1) 0)) l.arms.now + 1

abbrev pub invariant-add_expressions-loop-part : goal.invariant-add_expressions-loop-part
invariant-add_expressions-loop-part l =
    with_all (gathered l.types) (expressions_tell (drop l.part-index l.parts)) ≡ with_all (gathered l.initial.types) (expressions_tell l.parts)

abbrev pub invariant-add_arms-loop-arm : goal.invariant-add_arms-loop-arm
invariant-add_arms-loop-arm l =
    with_all (gathered l.types) (arms_tell (drop l.arm-index l.arms)) ≡ with_all (gathered l.initial.types) (arms_tell l.arms)
