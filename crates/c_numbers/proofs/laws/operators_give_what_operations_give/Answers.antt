use Rattle.c_numbers.proofs.InPlace.{less_tells, less_equal_tells, greater_tells, greater_equal_tells, equal_tells, unequal_tells}
use Rattle.c_numbers.proofs.InPlace.{quotients_in_place, rests_in_place, casts_convert}
use Rattle.c_numbers.proofs.laws.operators_give_what_operations_give.Goals as goal

pub returns-clause-less : goal.returns-clause-less
returns-clause-less c = less_tells

pub returns-clause-at_most : goal.returns-clause-at_most
returns-clause-at_most c = less_equal_tells

pub returns-clause-greater : goal.returns-clause-greater
returns-clause-greater c = greater_tells

pub returns-clause-at_least : goal.returns-clause-at_least
returns-clause-at_least c = greater_equal_tells

pub returns-clause-equal : goal.returns-clause-equal
returns-clause-equal c = equal_tells

pub returns-clause-unequal : goal.returns-clause-unequal
returns-clause-unequal c = unequal_tells

pub returns-clause-quotients : goal.returns-clause-quotients
returns-clause-quotients c = quotients_in_place

pub returns-clause-rests : goal.returns-clause-rests
returns-clause-rests c = rests_in_place

pub returns-clause-conversions : goal.returns-clause-conversions
returns-clause-conversions c = casts_convert
