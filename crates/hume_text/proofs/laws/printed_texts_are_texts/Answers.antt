use Rattle.hume_text.proofs.Rereading.{text_read}
use Rattle.hume_text.proofs.laws.printed_texts_are_texts.Goals as goal

pub returns : goal.returns
returns c types ty value printable names typed = text_read types names printable.others ty printable.own.limits value typed
