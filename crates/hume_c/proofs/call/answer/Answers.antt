use Rattle.std.proofs.Common.{◌∙◌, ap, Err}
use Rattle.hume_c.proofs.Answering.{answers_from, same_text, unread, unstarted}
use Rattle.hume_c.proofs.call.answer.Goals as goal

pub returns-in-Ok-clause-answers : goal.returns-in-Ok-clause-answers
returns-in-Ok-clause-answers g c = answers_from
    (record { kind = c.args.kind; name = c.args.name.now; source = c.args.source.now }) _ _ _ _ _ _ c.requires.source c.in-Ok.ensures.made c.in-Ok.ensures.text
    (same_text
    (record { kind = c.args.kind; name = c.args.name.now; source = c.args.source.now }) _ _ _ _ _ c.deref.ensures.value (c.tell.ensures.ends c.args.source.now))

pub returns-in-Err-Failed-clause-answers : goal.returns-in-Err-Failed-clause-answers
returns-in-Err-Failed-clause-answers g c =
    unread (record { kind = c.args.kind; name = c.args.name.now; source = c.args.source.now }) _ _ _ c.requires.source (c.read_source.ensures.failed (c.in-Err-Failed.is ∙ ap Err c.in-Err-Failed.field-0-is))

pub returns-in-Err-NoMemory-clause-answers : goal.returns-in-Err-NoMemory-clause-answers
returns-in-Err-NoMemory-clause-answers g c =
    unstarted (record { kind = c.args.kind; name = c.args.name.now; source = c.args.source.now }) _ _ (c.read_source.ensures.memory (c.in-Err-NoMemory.is ∙ ap Err c.in-Err-NoMemory.field-0-is))
