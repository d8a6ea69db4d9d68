use Rattle.c_numbers.proofs.Agreeing.{less_agrees, less_equal_agrees, equal_agrees}
use Rattle.c_numbers.proofs.laws.comparing_calls_tell_what_comparisons_tell.Goals as goal

pub returns-clause-less : goal.returns-clause-less
returns-clause-less c = less_agrees

pub returns-clause-at_most : goal.returns-clause-at_most
returns-clause-at_most c = less_equal_agrees

pub returns-clause-equal : goal.returns-clause-equal
returns-clause-equal c = equal_agrees
