use Rattle.hume_text.proofs.TextLengths.{text_short}
use Rattle.hume_text.proofs.laws.texts_are_bounded.Goals as goal

pub returns : goal.returns
returns c types ty value printable typed = text_short types printable.others ty printable.own value typed
