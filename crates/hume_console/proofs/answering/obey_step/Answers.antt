use Rattle.std.proofs.Common.{◌∙◌, ◌+◌, ap, arith, subst, sym, Ok}
use Rattle.phase_workers.specs.Runnable.{IsRunnable}
use Rattle.hume_console.specs.declared.answering.Turn.TheVariants.{Continues, Ends}
use Rattle.hume_console.specs.declared.ending.Ending.TheVariants.{BadValue}
use Rattle.hume_console.proofs.LinesAnswered.{answer_rooms, bad_answer, bad_failed, blocked, is_runnable, its_step, out_place, step_answer, step_before, step_failed}
use Rattle.hume_console.proofs.answering.obey_step.Goals as goal

pub step-requires-clause-before : goal.step-requires-clause-before
step-requires-clause-before g c κs within =
    let m = c.requires.at.0 in
    let at = c.requires.at.3 in (
      its_step m c.requires.at.1 c.args.engine.now c.args.places.now _ c.args.steps at c.requires.short,
      step_before m c.requires.at.1 c.args.engine.now c.args.places.now _ c.args.steps at c.requires.short,
    )

pub tell_bad_line-requires-clause-runnable : goal.tell_bad_line-requires-clause-runnable
tell_bad_line-requires-clause-runnable g c =
    let m = c.requires.at.0 in
    let at = c.requires.at.3 in
    let ends = c.step.ensures.ends (its_step m c.requires.at.1 c.args.engine.now c.args.places.now _ c.args.steps at c.requires.short)
    (step_before m c.requires.at.1 c.args.engine.now c.args.places.now _ c.args.steps at c.requires.short) in
    subst IsRunnable (sym c.core.ensures) (is_runnable _ _ _ _ _ _ _ _
    (blocked m c.requires.at.1 c.args.engine.now c.args.places.now _ c.args.steps at c.requires.short c.step.new.engine _ _ ends _
    (c.in-Ok-Some.is ∙ ap Ok c.in-Ok-Some.field-0-is)).stands)

pub tell_bad_line-requires-clause-out : goal.tell_bad_line-requires-clause-out
tell_bad_line-requires-clause-out g c =
    let m = c.requires.at.0 in
    let at = c.requires.at.3 in
    let ends = c.step.ensures.ends (its_step m c.requires.at.1 c.args.engine.now c.args.places.now _ c.args.steps at c.requires.short)
    (step_before m c.requires.at.1 c.args.engine.now c.args.places.now _ c.args.steps at c.requires.short) in
    out_place _ _ _ _ _ _ _ _ (blocked m c.requires.at.1 c.args.engine.now c.args.places.now _ c.args.steps at c.requires.short c.step.new.engine _ _ ends _
    (c.in-Ok-Some.is ∙ ap Ok c.in-Ok-Some.field-0-is)).stands

pub tell_bad_line-requires-clause-room : goal.tell_bad_line-requires-clause-room
tell_bad_line-requires-clause-room g c = omega (arith, c.requires.rooms.others, c.step.ensures.room)

pub returns-in-Ok-None-clause-ends : goal.returns-in-Ok-None-clause-ends
returns-in-Ok-None-clause-ends g c m number gone at =
    let ends = c.step.ensures.ends (its_step m number c.args.engine.now c.args.places.now _ c.args.steps at c.requires.short)
    (step_before m number c.args.engine.now c.args.places.now _ c.args.steps at c.requires.short) in
    step_answer m number c.args.engine.now c.args.places.now _ c.args.steps at c.requires.short c.step.new.engine _ _ ends (c.in-Ok-None.is ∙ ap Ok c.in-Ok-None.field-0-is)

pub returns-in-Ok-None-clause-rooms : goal.returns-in-Ok-None-clause-rooms
returns-in-Ok-None-clause-rooms g c =
    let m = c.requires.at.0 in
    let number = c.requires.at.1 in
    let at = c.requires.at.3 in
    let ends = c.step.ensures.ends (its_step m number c.args.engine.now c.args.places.now _ c.args.steps at c.requires.short)
    (step_before m number c.args.engine.now c.args.places.now _ c.args.steps at c.requires.short) in
    answer_rooms m.call (m.limit + 64) m.later c.args.engine.now c.step.new.engine m.commands c.args.places.now _ c.args.chunk.now c.step.new.chunk (Ok Continues)
    c.requires.rooms at.stands.rests.is_core c.step.ensures.room
    (step_answer m number c.args.engine.now c.args.places.now _ c.args.steps at c.requires.short c.step.new.engine _ _ ends (c.in-Ok-None.is ∙ ap Ok c.in-Ok-None.field-0-is))

pub returns-in-Ok-clause-ends : goal.returns-in-Ok-clause-ends
returns-in-Ok-clause-ends g c m number gone at =
    let ends = c.step.ensures.ends (its_step m number c.args.engine.now c.args.places.now _ c.args.steps at c.requires.short)
    (step_before m number c.args.engine.now c.args.places.now _ c.args.steps at c.requires.short) in
    bad_answer m number c.args.engine.now c.args.places.now _ c.args.steps at c.requires.short c.step.new.engine _ _ ends _
    (c.in-Ok-Some.is ∙ ap Ok c.in-Ok-Some.field-0-is) _ c.core.ensures _ _ c.tell_bad_line.ensures.ends c.in-Ok.is

pub returns-in-Ok-clause-rooms : goal.returns-in-Ok-clause-rooms
returns-in-Ok-clause-rooms g c =
    let m = c.requires.at.0 in
    let number = c.requires.at.1 in
    let at = c.requires.at.3 in
    let ends = c.step.ensures.ends (its_step m number c.args.engine.now c.args.places.now _ c.args.steps at c.requires.short)
    (step_before m number c.args.engine.now c.args.places.now _ c.args.steps at c.requires.short) in
    answer_rooms m.call (m.limit + 64) m.later c.args.engine.now c.step.new.engine m.commands c.args.places.now _ c.args.chunk.now c.tell_bad_line.new.chunk (Ok (Ends BadValue))
    c.requires.rooms at.stands.rests.is_core (c.tell_bad_line.ensures.room ∙ c.step.ensures.room)
    (bad_answer m number c.args.engine.now c.args.places.now _ c.args.steps at c.requires.short c.step.new.engine _ _ ends _
    (c.in-Ok-Some.is ∙ ap Ok c.in-Ok-Some.field-0-is) _ c.core.ensures _ _ c.tell_bad_line.ensures.ends c.in-Ok.is)

pub returns-in-Err-tell_bad_line-clause-ends : goal.returns-in-Err-tell_bad_line-clause-ends
returns-in-Err-tell_bad_line-clause-ends g c m number gone at =
    let ends = c.step.ensures.ends (its_step m number c.args.engine.now c.args.places.now _ c.args.steps at c.requires.short)
    (step_before m number c.args.engine.now c.args.places.now _ c.args.steps at c.requires.short) in
    bad_failed m number c.args.engine.now c.args.places.now _ c.args.steps at c.requires.short c.step.new.engine _ _ ends _
    (c.in-Ok-Some.is ∙ ap Ok c.in-Ok-Some.field-0-is) _ c.core.ensures _ _ c.tell_bad_line.ensures.ends c.in-Err-tell_bad_line.failed c.in-Err-tell_bad_line.is

pub returns-in-Err-clause-ends : goal.returns-in-Err-clause-ends
returns-in-Err-clause-ends g c m number gone at =
    let ends = c.step.ensures.ends (its_step m number c.args.engine.now c.args.places.now _ c.args.steps at c.requires.short)
    (step_before m number c.args.engine.now c.args.places.now _ c.args.steps at c.requires.short) in
    step_failed m number c.args.engine.now c.args.places.now _ c.args.steps at c.requires.short c.step.new.engine _ _ ends c.in-Err.failed c.in-Err.is
