use Rattle.std.proofs.Common.{◌≡◌, ◌+◌, ◌*◌, drop}
use denote.Param.Weighed.{most}
use Rattle.std.specs.List.{flat_map}
use Rattle.c_tree.specs.declared.tree.CStm.{size-CStm}
use Rattle.c_used.specs.Uses.{statements_use}
use Rattle.c_used.specs.inner.Names.{tree_arm_uses, with_names}
use Rattle.c_used.proofs.Measures.{arms_size}
use Rattle.c_used.proofs.statements.+add_statements.Given as goal

abbrev pub decreases-add_statement : goal.decreases-add_statement
decreases-add_statement l = 3 * size-CStm l.statement.now

abbrev pub decreases-add_statements : goal.decreases-add_statements
decreases-add_statements l = 3 * most size-CStm l.statements.now + 1

abbrev pub decreases-add_arms : goal.decreases-add_arms
decreases-add_arms l = 3 * arms_size l.arms.now + 2

abbrev pub invariant-add_statements-loop-statement : goal.invariant-add_statements-loop-statement
invariant-add_statements-loop-statement l =
    with_names l.names (statements_use (drop l.statement-index l.statements)) ≡ with_names l.initial.names (statements_use l.statements)

abbrev pub invariant-add_arms-loop-arm : goal.invariant-add_arms-loop-arm
invariant-add_arms-loop-arm l =
    with_names l.names (flat_map tree_arm_uses (drop l.arm-index l.arms)) ≡ with_names l.initial.names (flat_map tree_arm_uses l.arms)
