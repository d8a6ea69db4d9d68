use Rattle.std.proofs.Common.{ap, ◌∙◌, Err}
use Rattle.hume_calls.proofs.Answering.{answers_from, same_source, same_text, source_unread, source_unstarted}
use Rattle.hume_run.proofs.top.answer.Goals as goal

pub returns-in-Ok : goal.returns-in-Ok
returns-in-Ok g c = answers_from _ _ _ _ _ _ _ _ c.requires.source c.in-Ok.ensures.made c.in-Ok.ensures.text
    (same_text _ _ _ _ _ _ _ c.deref.ensures.value (same_source _ _ _ _ _ _ _ c.as_bytes.ensures.value c.answer_text.ensures))

pub returns-in-Err-Failed : goal.returns-in-Err-Failed
returns-in-Err-Failed g c = source_unread _ _ _ _ _ c.requires.source
    (c.read_source.ensures.failed (c.in-Err-Failed.is ∙ ap Err c.in-Err-Failed.field-0-is))

pub returns-in-Err-NoMemory : goal.returns-in-Err-NoMemory
returns-in-Err-NoMemory g c =
    source_unstarted _ _ _ _ (c.read_source.ensures.memory (c.in-Err-NoMemory.is ∙ ap Err c.in-Err-NoMemory.field-0-is))
