use Rattle.hume_lex.proofs.Total.{some_answer}
use Rattle.hume_lex.proofs.Unique.{one_reading, one_bad_place, read_no_bad_place}
use Rattle.hume_lex.proofs.laws.one_answer.Goals as goal

pub returns : goal.returns
returns c = record { some = some_answer; reading = one_reading; bad_place = one_bad_place; apart = read_no_bad_place }
