use Rattle.std.proofs.Common.{refl, ap, ◌∙◌, Err}
use Rattle.hume_calls.proofs.Answering.{out_of_memory}
use Rattle.hume_run.proofs.Calculating.{script_answers, script_failed, unsound_text}
use Rattle.hume_run.proofs.calc.calc_text.Goals as goal

pub run_rewritten-requires-clause-sound : goal.run_rewritten-requires-clause-sound
run_rewritten-requires-clause-sound g c κs within = (_, c.in-Ok.ensures.sound)

pub returns-in-Err : goal.returns-in-Err
returns-in-Err g c place script = unsound_text c.args.steps c.args.workers place script _ _ _ _ _ (c.end_unsound.ensures _ c.in-Err.ensures.error)

pub returns-in-Ok-read_script : goal.returns-in-Ok-read_script
returns-in-Ok-read_script g c place script =
    script_answers c.args.steps c.args.workers place script _ _ c.requires.script.apart c.in-Ok.sound c.in-Ok.ensures.sound _ _ _ _ _ c.args.at _
    c.requires.script.place c.in-Ok-read_script.ensures.made c.in-Ok-read_script.ensures.text c.in-Ok-read_script.ensures.whole c.deref.ensures.value
    (λ core coming. c.wants_stand_before_rounds.ensures core coming _ _) (c.run_rewritten.ensures _ c.requires.script.only)

pub returns-in-Err-Failed : goal.returns-in-Err-Failed
returns-in-Err-Failed g c place script =
    script_failed c.args.steps c.args.workers place script _ _ c.requires.script.apart c.in-Ok.sound c.in-Ok.ensures.sound c.each_run_has_inputs.ensures _ _
    c.args.at c.requires.script.place (c.read_script.ensures.failed (c.in-Err-Failed.is ∙ ap Err c.in-Err-Failed.field-0-is))

pub returns-in-Err-NoMemory : goal.returns-in-Err-NoMemory
returns-in-Err-NoMemory g c place script =
    out_of_memory _ _ _ _ _ _ (refl, c.read_script.ensures.memory (c.in-Err-NoMemory.is ∙ ap Err c.in-Err-NoMemory.field-0-is))
