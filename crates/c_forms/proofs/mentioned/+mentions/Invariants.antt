use Rattle.std.proofs.Common.{◌≡◌, ◌+◌, ◌*◌, max, drop}
use denote.Param.Weighed.{most}
use Rattle.c_tree.specs.declared.tree.CStm.{size-CStm}
use Rattle.c_tree.proofs.Measures.{arms_size}
use Rattle.c_forms.specs.Mentions.{mentions}
use Rattle.c_forms.specs.inner.Arms.{tree_arms_mention}
use Rattle.c_forms.proofs.mentioned.+mentions.Given as goal

abbrev pub decreases-statement_mentions : goal.decreases-statement_mentions
decreases-statement_mentions l = 8 * size-CStm l.statement.now

abbrev pub decreases-mentions : goal.decreases-mentions
decreases-mentions l = 8 * most size-CStm l.statements.now + 1

abbrev pub decreases-arms_mention : goal.decreases-arms_mention
decreases-arms_mention l = 8 * arms_size l.arms.now + 2

abbrev pub decreases-last_blocks_mention : goal.decreases-last_blocks_mention
decreases-last_blocks_mention l = 8 * max (arms_size l.arms.now) (most size-CStm l.otherwise.now) + 3

abbrev pub decreases-blocks_mention : goal.decreases-blocks_mention
decreases-blocks_mention l = 8 * max (most size-CStm l.body.now) (max (arms_size l.others.now) (most size-CStm l.otherwise.now)) + 4

abbrev pub invariant-mentions-loop-statement : goal.invariant-mentions-loop-statement
invariant-mentions-loop-statement l = mentions l.name (drop l.statement-index l.statements) ≡ mentions l.name l.statements

abbrev pub invariant-arms_mention-loop-arm : goal.invariant-arms_mention-loop-arm
invariant-arms_mention-loop-arm l = tree_arms_mention l.name (drop l.arm-index l.arms) ≡ tree_arms_mention l.name l.arms
