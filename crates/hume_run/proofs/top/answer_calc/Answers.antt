use Rattle.std.proofs.Common.{ap, ◌∙◌, Err}
use Rattle.hume_calls.proofs.Answering.{answers_from, same_named, same_text, source_unread, source_unstarted}
use Rattle.hume_run.proofs.top.answer_calc.Goals as goal

pub returns-in-Ok : goal.returns-in-Ok
returns-in-Ok g c place script = answers_from _ _ _ _ _ _ _ _ c.requires.source c.in-Ok.ensures.made c.in-Ok.ensures.text
    (same_text _ _ _ _ _ _ _ c.deref.ensures.value (same_named _ _ _ _ _ _ _ _ c.as_bytes.ensures.value (c.calc_text.ensures place script)))

pub returns-in-Err-Failed : goal.returns-in-Err-Failed
returns-in-Err-Failed g c place script = source_unread _ _ _ _ _ c.requires.source
    (c.read_source.ensures.failed (c.in-Err-Failed.is ∙ ap Err c.in-Err-Failed.field-0-is))

pub returns-in-Err-NoMemory : goal.returns-in-Err-NoMemory
returns-in-Err-NoMemory g c place script =
    source_unstarted _ _ _ _ (c.read_source.ensures.memory (c.in-Err-NoMemory.is ∙ ap Err c.in-Err-NoMemory.field-0-is))
