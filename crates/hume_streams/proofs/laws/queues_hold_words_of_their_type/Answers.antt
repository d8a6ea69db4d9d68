use Rattle.hume_streams.proofs.RowWidths.{words_held, words_wide}
use Rattle.hume_streams.proofs.laws.queues_hold_words_of_their_type.Goals as goal

pub returns-clause-values : goal.returns-clause-values
returns-clause-values c = λ types ty queue text rest given is. words_held types ty queue text given rest is

pub returns-clause-width : goal.returns-clause-width
returns-clause-width c = λ types ty queue text rest given is. words_wide types ty queue text given rest is
