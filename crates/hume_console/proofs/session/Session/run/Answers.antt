use Rattle.std.proofs.Common.{◌∙◌, ◌+◌, ap, arith, subst, Ok}
use Rattle.std.specs.Prelude.{OnOk}
use Rattle.hume_console.specs.declared.session.TheConstants.{MAX_COMMANDS}
use Rattle.hume_console.specs.inner.Answering.{IsRoomy}
use Rattle.hume_console.proofs.SessionTold.{answered_on, at_lent, line_as, lines_back, number_as}
use Rattle.hume_console.proofs.session.Session.run.Goals as goal

pub answer_line-requires-clause-at : goal.answer_line-requires-clause-at
answer_line-requires-clause-at g c κs within = (c.requires.at.0, c.loop-done.invariant.at c.requires.at.0 c.requires.at.1)

pub returns-in-Ok-Ends : goal.returns-in-Ok-Ends
returns-in-Ok-Ends g c = record {
  ends = λ call at.
      line_as call (c.loop-done.done + 1) c.answer_line.new.self _ _ _ (c.in-Ok-Ends.is ∙ ap Ok c.in-Ok-Ends.field-0-is)
      (c.answer_line.ensures.ends call (c.loop-done.invariant.at call at));
}

pub returns-in-Err : goal.returns-in-Err
returns-in-Err g c = record {
  ends = λ call at.
      line_as call (c.loop-done.done + 1) c.answer_line.new.self _ _ _ c.in-Err.is (c.answer_line.ensures.ends call (c.loop-done.invariant.at call at));
}

pub loop-done-preserved : goal.loop-done-preserved
loop-done-preserved g c =
    answered_on c.args.self.now c.loop-done.self c.answer_line.new.self _ _ _ _ _ _ _ _ _ c.loop-done.done c.loop-done.invariant
    (λ call at. line_as call (c.loop-done.done + 1) c.answer_line.new.self _ _ _ (c.in-Ok-Continues.is ∙ ap Ok c.in-Ok-Continues.field-0-is)
    (c.answer_line.ensures.ends call at))
    (subst (λ result. OnOk result (IsRoomy c.answer_line.new.self)) c.in-Ok-Continues.is c.answer_line.ensures.roomy) c.answer_line.ensures.room

pub refuse_line-requires-clause-at : goal.refuse_line-requires-clause-at
refuse_line-requires-clause-at g c =
    let at = c.requires.at in (
      at.0,
      _,
      at_lent _ c.loop-done.ports.items c.deref_mut.result.now at.0 (MAX_COMMANDS + 1) c.loop-done.self _ c.deref_mut.ensures.value
          (number_as at.0 (c.loop-done.done + 1) (MAX_COMMANDS + 1) c.loop-done.self _ (omega (arith, c.loop-done-test.false, c.loop-done.auto.done-end))
          (c.loop-done.invariant.at at.0 at.1)),
    )

pub returns : goal.returns
returns g c = record {
  ends = λ call at.
      lines_back _ c.loop-done.ports.items c.deref_mut.result.now c.refuse_line.new.ports _ c.deref_mut.ensures.len c.deref_mut.ensures.value
      c.refuse_line.ensures.same_names call (MAX_COMMANDS + 1) c.refuse_line.new.self _ _
      (c.refuse_line.ensures.ends call _
      (at_lent _ c.loop-done.ports.items c.deref_mut.result.now call (MAX_COMMANDS + 1) c.loop-done.self _ c.deref_mut.ensures.value
      (number_as call (c.loop-done.done + 1) (MAX_COMMANDS + 1) c.loop-done.self _ (omega (arith, c.loop-done-test.false, c.loop-done.auto.done-end))
      (c.loop-done.invariant.at call at))));
}
