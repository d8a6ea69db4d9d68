use Rattle.c_numbers.proofs.Written.{sums_written, differences_written, products_written, negations_written, quotients_written, rests_written}
use Rattle.c_numbers.proofs.Written.{less_written, at_most_written, greater_written, at_least_written, equal_written, unequal_written, conversions_written}
use Rattle.c_numbers.proofs.laws.written_operations_give_what_operations_give.Goals as goal

pub returns-clause-sums : goal.returns-clause-sums
returns-clause-sums c = sums_written

pub returns-clause-differences : goal.returns-clause-differences
returns-clause-differences c = differences_written

pub returns-clause-products : goal.returns-clause-products
returns-clause-products c = products_written

pub returns-clause-negations : goal.returns-clause-negations
returns-clause-negations c = negations_written

pub returns-clause-quotients : goal.returns-clause-quotients
returns-clause-quotients c = quotients_written

pub returns-clause-rests : goal.returns-clause-rests
returns-clause-rests c = rests_written

pub returns-clause-less : goal.returns-clause-less
returns-clause-less c = less_written

pub returns-clause-at_most : goal.returns-clause-at_most
returns-clause-at_most c = at_most_written

pub returns-clause-greater : goal.returns-clause-greater
returns-clause-greater c = greater_written

pub returns-clause-at_least : goal.returns-clause-at_least
returns-clause-at_least c = at_least_written

pub returns-clause-equal : goal.returns-clause-equal
returns-clause-equal c = equal_written

pub returns-clause-unequal : goal.returns-clause-unequal
returns-clause-unequal c = unequal_written

pub returns-clause-conversions : goal.returns-clause-conversions
returns-clause-conversions c = conversions_written
