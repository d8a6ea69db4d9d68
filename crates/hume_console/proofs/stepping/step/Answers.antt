use Rattle.std.proofs.Common.{◌∙◌, ap, subst, Ok}
use Rattle.hume_console.specs.inner.Stepping.{EndsMade}
use Rattle.hume_console.proofs.StepBefore.{before_filling, before_long, before_runnable, then_blocked, then_failed, then_filled}
use Rattle.hume_console.proofs.stepping.step.Goals as goal

pub fill_inputs-requires-clause-runnable : goal.fill_inputs-requires-clause-runnable
fill_inputs-requires-clause-runnable g c = before_runnable c.requires.before.0 c.args.steps c.args.places.now c.args.engine.now _ c.requires.before.1

pub fill_inputs-requires-clause-long : goal.fill_inputs-requires-clause-long
fill_inputs-requires-clause-long g c =
    before_long c.requires.before.0 c.args.steps c.args.places.now c.args.engine.now _ c.requires.before.1 _ c.deref.ensures.value

pub fill_inputs-requires-clause-filling : goal.fill_inputs-requires-clause-filling
fill_inputs-requires-clause-filling g c =
    (c.requires.before.0, before_filling c.requires.before.0 c.args.steps c.args.places.now c.args.engine.now _ c.requires.before.1 _ c.deref.ensures.value)

pub returns-in-Ok-Some-clause-ends : goal.returns-in-Ok-Some-clause-ends
returns-in-Ok-Some-clause-ends g c step before =
    then_blocked step c.args.steps c.args.places.now c.args.engine.now _ before c.fill_inputs.new.engine _ _
    (c.fill_inputs.ensures.ends step (before_filling step c.args.steps c.args.places.now c.args.engine.now _ before _ c.deref.ensures.value)) c.in-Ok-Some.bad
    (c.in-Ok-Some.is ∙ ap Ok c.in-Ok-Some.field-0-is)

pub returns-in-Err-clause-ends : goal.returns-in-Err-clause-ends
returns-in-Err-clause-ends g c step before =
    then_failed step c.args.steps c.args.places.now c.args.engine.now _ before c.fill_inputs.new.engine _ _
    (c.fill_inputs.ensures.ends step (before_filling step c.args.steps c.args.places.now c.args.engine.now _ before _ c.deref.ensures.value)) c.in-Err.failed c.in-Err.is

pub make_step-requires-clause-filled : goal.make_step-requires-clause-filled
make_step-requires-clause-filled g c κs within = (
  c.requires.before.0,
  then_filled c.requires.before.0 c.args.steps c.args.places.now c.args.engine.now _ c.requires.before.1 c.fill_inputs.new.engine _ _
      (c.fill_inputs.ensures.ends c.requires.before.0
      (before_filling c.requires.before.0 c.args.steps c.args.places.now c.args.engine.now _ c.requires.before.1 _ c.deref.ensures.value))
      _ c.deref-2.ensures.value (c.in-Ok-None.is ∙ ap Ok c.in-Ok-None.field-0-is),
)

pub returns-in-Ok-clause-ends : goal.returns-in-Ok-clause-ends
returns-in-Ok-clause-ends g c step before =
    subst (EndsMade step _ _) c.in-Ok.is (c.make_step.ensures.ends step
    (then_filled step c.args.steps c.args.places.now c.args.engine.now _ before c.fill_inputs.new.engine _ _
    (c.fill_inputs.ensures.ends step (before_filling step c.args.steps c.args.places.now c.args.engine.now _ before _ c.deref.ensures.value))
    _ c.deref-2.ensures.value (c.in-Ok-None.is ∙ ap Ok c.in-Ok-None.field-0-is)))

pub returns-in-Err-make_step-clause-ends : goal.returns-in-Err-make_step-clause-ends
returns-in-Err-make_step-clause-ends g c step before =
    subst (EndsMade step _ _) c.in-Err-make_step.is (c.make_step.ensures.ends step
    (then_filled step c.args.steps c.args.places.now c.args.engine.now _ before c.fill_inputs.new.engine _ _
    (c.fill_inputs.ensures.ends step (before_filling step c.args.steps c.args.places.now c.args.engine.now _ before _ c.deref.ensures.value))
    _ c.deref-2.ensures.value (c.in-Ok-None.is ∙ ap Ok c.in-Ok-None.field-0-is)))
