use Rattle.c_numbers.proofs.Agreeing.{sums_agree, differences_agree, products_agree, negations_agree}
use Rattle.c_numbers.proofs.laws.wrapping_calls_give_what_operations_give.Goals as goal

pub returns-clause-sums : goal.returns-clause-sums
returns-clause-sums c = sums_agree

pub returns-clause-differences : goal.returns-clause-differences
returns-clause-differences c = differences_agree

pub returns-clause-products : goal.returns-clause-products
returns-clause-products c = products_agree

pub returns-clause-negations : goal.returns-clause-negations
returns-clause-negations c = negations_agree
