use Rattle.std.proofs.Common.{◌∙◌}
use Rattle.hume_calls.proofs.Telling.{program_told, program_failed}
use Rattle.hume_run.proofs.union.refusing.refuse_program.Goals as goal

pub returns-in-Ok-write_and_finish : goal.returns-in-Ok-write_and_finish
returns-in-Ok-write_and_finish g c = program_told _ _ c.requires _ _ _ (c.deref.ensures.value ∙ c.in-Ok.ensures) c.in-Ok-write_and_finish.ensures.ends

pub returns : goal.returns
returns g c = program_failed _ _ c.requires _ _ _ (c.deref.ensures.value ∙ c.in-Ok.ensures) c.in-Err.ensures.ends
