use Rattle.std.proofs.Common.{◌∙◌, ap}
use Rattle.hume_text.specs.inner.Readers.{place_in}
use Rattle.hume_text.proofs.FoundWords.{named_found, place_next}
use Rattle.hume_text.proofs.found.take_place.Goals as goal

pub returns-in_default : goal.returns-in_default
returns-in_default c = place_next c.args.sum.now c.args.line.now ∙ ap (named_found (place_in c.args.sum.now)) c.in_default.ensures
