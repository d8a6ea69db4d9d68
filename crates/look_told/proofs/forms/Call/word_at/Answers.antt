use Rattle.std.proofs.Common.{rules}
use Rattle.look_told.proofs.Called.{is_word}
use Rattle.look_told.proofs.forms.Call.word_at.Goals as goal

pub returns-in-Some : goal.returns-in-Some
returns-in-Some c = is_word _ c.args.place c.in-Some.word.now _ (search rules) c.in-Some.ensures.lookup.1 c.as_str.ensures.value
