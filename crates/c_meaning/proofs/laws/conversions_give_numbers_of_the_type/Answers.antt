use Rattle.c_meaning.proofs.Ranges.{converted_is, is_held, signed_is, signed_overflows, unsigned_is}
use Rattle.c_meaning.proofs.laws.conversions_give_numbers_of_the_type.Goals as goal

pub returns-clause-is : goal.returns-clause-is
returns-clause-is c = λ ty number x e. (converted_is ty number x e).is

pub returns-clause-range : goal.returns-clause-range
returns-clause-range c = λ ty number x e. is_held ty x.number (converted_is ty number x e).range

pub returns-clause-unsigned : goal.returns-clause-unsigned
returns-clause-unsigned c = unsigned_is

pub returns-clause-signed : goal.returns-clause-signed
returns-clause-signed c = signed_is

pub returns-clause-none : goal.returns-clause-none
returns-clause-none c = signed_overflows
