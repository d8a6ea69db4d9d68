use Rattle.hume_lex.proofs.Places.{token_within, error_within}
use Rattle.hume_lex.proofs.laws.places_are_within.Goals as goal

pub returns : goal.returns
returns c = record { tokens = token_within; bad_place = error_within }
