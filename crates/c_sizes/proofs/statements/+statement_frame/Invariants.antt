use Rattle.std.proofs.Common.{◌≡◌, ◌+◌, ◌*◌, max, drop, map}
use Rattle.std.specs.Prelude.{fold}
use denote.Param.Weighed.{most}
use Rattle.c_tree.specs.declared.tree.CStm.{size-CStm}
use Rattle.c_sizes.specs.Frames.{all_of, also, arm_of, statement_frame}
use Rattle.c_sizes.specs.inner.Arms.{framed_arm}
use Rattle.c_sizes.proofs.Measures.{arms_size}
use Rattle.c_sizes.proofs.statements.+statement_frame.Given as goal

abbrev pub decreases-statement_frame : goal.decreases-statement_frame
decreases-statement_frame l = 8 * size-CStm l.statement.now

abbrev pub decreases-all_frames : goal.decreases-all_frames
decreases-all_frames l = 8 * most size-CStm l.statements.now + 1

abbrev pub decreases-arm_frame : goal.decreases-arm_frame
decreases-arm_frame l = 8 * most size-CStm l.body.now + 2

abbrev pub decreases-each_arm : goal.decreases-each_arm
decreases-each_arm l = 8 * arms_size l.arms.now + 3

abbrev pub decreases-arms_frame : goal.decreases-arms_frame
decreases-arms_frame l = 8 * max (arms_size l.arms.now) (most size-CStm l.otherwise.now) + 4

abbrev pub decreases-if_frame : goal.decreases-if_frame
decreases-if_frame l = 8 * max (most size-CStm l.body.now) (max (arms_size l.others.now) (most size-CStm l.otherwise.now)) + 5

abbrev pub decreases-switch_frame : goal.decreases-switch_frame
decreases-switch_frame l = 8 * max (arms_size l.cases.now) (most size-CStm l.otherwise.now) + 5

abbrev pub decreases-for_frame : goal.decreases-for_frame
decreases-for_frame l = 8 * most size-CStm l.body.now + 2

abbrev pub invariant-all_frames-loop-statement : goal.invariant-all_frames-loop-statement
invariant-all_frames-loop-statement l =
    fold also l.all (map (statement_frame l.types l.functions) (drop l.statement-index l.statements))
    ≡ all_of (map (statement_frame l.types l.functions) l.statements)

abbrev pub invariant-each_arm-loop-arm : goal.invariant-each_arm-loop-arm
invariant-each_arm-loop-arm l =
    fold also l.all (map (arm_of l.functions) (map (framed_arm l.types l.functions) (drop l.arm-index l.arms)))
    ≡ all_of (map (arm_of l.functions) (map (framed_arm l.types l.functions) l.arms))
