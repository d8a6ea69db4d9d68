use Rattle.c_meaning.proofs.Ranges.{held_number}
use Rattle.c_meaning.proofs.Operations.{negated_is, operated_is, signed_held, unsigned_held}
use Rattle.c_meaning.proofs.laws.operators_give_numbers_of_their_types.Goals as goal

pub returns-clause-is : goal.returns-clause-is
returns-clause-is c = λ int operator x y z big e. (operated_is int operator x y z big e).is

pub returns-clause-range : goal.returns-clause-range
returns-clause-range c = λ int operator x y z big e. held_number (operated_is int operator x y z big e)

pub returns-clause-negated : goal.returns-clause-negated
returns-clause-negated c = λ int x z e. held_number (negated_is int x z e)

pub returns-clause-unsigned : goal.returns-clause-unsigned
returns-clause-unsigned c = λ int width amount z big e. held_number (unsigned_held int width amount z big e)

pub returns-clause-signed : goal.returns-clause-signed
returns-clause-signed c = λ int width number z big e. held_number (signed_held int width number z big e)
