use Rattle.c_meaning.proofs.Congruences.{difference_wraps, product_wraps, sum_wraps}
use Rattle.c_meaning.proofs.laws.unsigned_numbers_wrap.Goals as goal

pub returns-clause-sums : goal.returns-clause-sums
returns-clause-sums c = sum_wraps

pub returns-clause-differences : goal.returns-clause-differences
returns-clause-differences c = difference_wraps

pub returns-clause-products : goal.returns-clause-products
returns-clause-products c = product_wraps
