use Rattle.std.proofs.Common.{◌∙◌}
use Rattle.hume_calls.proofs.Telling.{refusal_told, refusal_failed}
use Rattle.hume_calls.proofs.refusals.refuse.Goals as goal

pub returns-in-Ok-write_and_finish : goal.returns-in-Ok-write_and_finish
returns-in-Ok-write_and_finish g c = refusal_told _ _ c.requires _ _ _ (c.deref.ensures.value ∙ c.in-Ok.ensures) c.in-Ok-write_and_finish.ensures.ends

pub returns : goal.returns
returns g c = refusal_failed _ _ c.requires _ _ _ (c.deref.ensures.value ∙ c.in-Ok.ensures) c.in-Err.ensures.ends
