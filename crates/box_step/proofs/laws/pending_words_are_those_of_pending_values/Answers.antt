use Rattle.std.proofs.Common.{refl}
use Rattle.box_step.proofs.PendingValues.{words_of_values, size_of_words, no_words}
use Rattle.box_step.proofs.laws.pending_words_are_those_of_pending_values.Goals as goal

pub returns-clause-words : goal.returns-clause-words
returns-clause-words c = λ core b part box values at pending. words_of_values at values pending

pub returns-clause-size : goal.returns-clause-size
returns-clause-size c = λ core b part box values at pending typed i ty words there is. size_of_words at values pending typed i ty words there is

pub returns-clause-none : goal.returns-clause-none
returns-clause-none c = λ core b part box at pending i. no_words at pending i

pub returns-clause-forgotten : goal.returns-clause-forgotten
returns-clause-forgotten c = λ box i. refl
