use Rattle.std.proofs.Common.{ap, ◌∙◌, Err}
use Rattle.hume_console.proofs.Prepared.{ended_after, place_within, unread, unstarted}
use Rattle.hume_console.proofs.preparing.prepare.Goals as goal

pub read_source-requires : goal.read_source-requires
read_source-requires g c = place_within _ c.args.ports.now c.args.name.now c.args.source c.requires.source

pub returns-in-Ok-clause-ended : goal.returns-in-Ok-clause-ended
returns-in-Ok-clause-ended g c =
    ended_after c.args.name.now _ _ c.args.source _ _ _ c.prepare_text.result c.deref.ensures.value c.requires.source c.in-Ok.ensures.made c.in-Ok.ensures.text
    c.prepare_text.ensures.ended

pub returns-in-Err-Failed-clause-ended : goal.returns-in-Err-Failed-clause-ended
returns-in-Err-Failed-clause-ended g c gone =
    unread c.args.name.now _ _ gone (c.read_source.ensures.failed (c.in-Err-Failed.is ∙ ap Err c.in-Err-Failed.field-0-is) c.args.name.now c.requires.source)

pub returns-in-Err-NoMemory-clause-ended : goal.returns-in-Err-NoMemory-clause-ended
returns-in-Err-NoMemory-clause-ended g c gone =
    unstarted c.args.name.now _ _ gone (c.read_source.ensures.memory (c.in-Err-NoMemory.is ∙ ap Err c.in-Err-NoMemory.field-0-is))
