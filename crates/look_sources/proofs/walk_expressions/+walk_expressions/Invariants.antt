use Rattle.std.proofs.Common.{◌+◌, ◌*◌, ◌≤◌, max}
use denote.Param.Weighed.{most}
use Rattle.hume_ast.specs.declared.tree.Exp.{size-Exp}
use Rattle.hume_ast.proofs.SpellSteps.{alternatives_size}
use Rattle.look_sources.specs.inner.Walks.{noted}
use Rattle.look_sources.proofs.walk_expressions.+walk_expressions.Given as goal

abbrev pub decreases-walk_after : goal.decreases-walk_after
decreases-walk_after l = 3 * size-Exp l.exp.now + 1

abbrev pub decreases-walk_alternatives : goal.decreases-walk_alternatives
decreases-walk_alternatives l = 3 * alternatives_size l.alternatives.now + 2

abbrev pub decreases-walk_expression : goal.decreases-walk_expression
decreases-walk_expression l = 3 * size-Exp l.exp.now

abbrev pub decreases-walk_expressions : goal.decreases-walk_expressions
decreases-walk_expressions l = 3 * most size-Exp l.exps.now + 2

abbrev pub decreases-walk_let : goal.decreases-walk_let
decreases-walk_let l = 3 * max (size-Exp l.value.now) (size-Exp l.body.now) + 2

abbrev pub invariant-walk_alternatives-loop-i : goal.invariant-walk_alternatives-loop-i
invariant-walk_alternatives-loop-i l = noted l.fn.walk ≤ noted l.walk

abbrev pub invariant-walk_expressions-loop-i : goal.invariant-walk_expressions-loop-i
invariant-walk_expressions-loop-i l = noted l.fn.walk ≤ noted l.walk
