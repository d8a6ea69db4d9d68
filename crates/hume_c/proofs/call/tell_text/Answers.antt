use Rattle.hume_c.proofs.Answering.{text_failed, text_told}
use Rattle.hume_c.proofs.call.tell_text.Goals as goal

pub returns-in-Ok-write_and_finish-clause-ends : goal.returns-in-Ok-write_and_finish-clause-ends
returns-in-Ok-write_and_finish-clause-ends g c =
    text_told _ _ c.requires.out _ _ _ _ _ _ _ c.deref.ensures.value c.in-Ok.ensures c.in-Ok-write_and_finish.ensures.ends

pub returns-clause-ends : goal.returns-clause-ends
returns-clause-ends g c = text_failed _ _ c.requires.out _ _ _ _ _ _ _ c.deref.ensures.value c.in-Ok.ensures c.in-Err.ensures.ends
