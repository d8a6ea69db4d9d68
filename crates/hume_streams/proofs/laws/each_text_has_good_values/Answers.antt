use Rattle.hume_streams.proofs.GoodAlways.{good_always}
use Rattle.hume_streams.proofs.laws.each_text_has_good_values.Goals as goal

pub returns : goal.returns
returns c types ty text sizes names printable = good_always types ty sizes names printable text
