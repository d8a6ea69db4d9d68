use Rattle.std.proofs.Common.{◌∙◌, ◌+◌, ap, drop, map, sym, ◌||◌}
use Rattle.c_analysis.specs.Targets.{target}
use Rattle.c_boxes.specs.Marks.{arms_mark}
use Rattle.c_boxes.specs.Results.{arm_mark}
use Rattle.c_boxes.specs.inner.Arms.{arm_given}
use Rattle.c_boxes.proofs.MarkForms.{arm_marks_next, arm_object_next}
use Rattle.c_boxes.proofs.uses.+mark_result.Goals as goal

pub mark_arms-loop-place-preserved : goal.mark_arms-loop-place-preserved
mark_arms-loop-place-preserved t c =
    let s = target c.args.s in
    let was = c.in_ok-object.ensures in
    let tests = sym c.needs_test.ensures ∙ c.if-not-needs_test.false in
    record {
      marks = arm_marks_next s c.args.of.now c.arms_leave_none_out-complete.result c.args.arms.now c.loop-place.place c.index-arms-place.result
          c.loop-place.used.items c.mark_arm.new.used.items c.in_ok-object.object c.goes_on.result
          c.loop-place-test.true c.index-arms-place.is was.marks was.object tests c.goes_on.ensures
          ∙ c.loop-place.invariant.marks;
      object = ap (λ looked_at. looked_at || (arms_mark s c.args.of.now c.arms_leave_none_out-complete.result (map arm_mark (map (arm_given s) (drop (c.loop-place.place + 1) c.args.arms.now))) c.mark_arm.new.used.items).object) c.looks-looked_at.ensures
          ∙ arm_object_next s c.args.of.now c.arms_leave_none_out-complete.result c.args.arms.now c.loop-place.place c.index-arms-place.result
          c.loop-place.used.items c.mark_arm.new.used.items c.in_ok-object.object c.goes_on.result c.loop-place.looked_at
          c.loop-place-test.true c.index-arms-place.is was.marks was.object tests c.goes_on.ensures
          ∙ c.loop-place.invariant.object;
      complete = c.loop-place.invariant.complete;
    }
