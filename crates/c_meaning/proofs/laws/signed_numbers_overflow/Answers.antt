use Rattle.c_tree.specs.declared.tree.COp.TheVariants.{Add, Divide, Less, Multiply, Subtract}
use Rattle.c_meaning.proofs.Operations.{on_signed}
use Rattle.c_meaning.proofs.laws.signed_numbers_overflow.Goals as goal

pub returns-clause-sums : goal.returns-clause-sums
returns-clause-sums c = λ int size x y. on_signed int Add x y size

pub returns-clause-differences : goal.returns-clause-differences
returns-clause-differences c = λ int size x y. on_signed int Subtract x y size

pub returns-clause-products : goal.returns-clause-products
returns-clause-products c = λ int size x y. on_signed int Multiply x y size

pub returns-clause-quotients : goal.returns-clause-quotients
returns-clause-quotients c = λ int size x y. on_signed int Divide x y size

pub returns-clause-comparisons : goal.returns-clause-comparisons
returns-clause-comparisons c = λ int size x y. on_signed int Less x y size
