use Rattle.std.proofs.Common.{Some}
use Rattle.c_meaning.proofs.Blocks.{out_of_bounds}
use Rattle.c_meaning.proofs.laws.elements_lie_within_bounds.Goals as goal

pub returns-clause-read : goal.returns-clause-read
returns-clause-read c = λ count i element path far. (out_of_bounds count i element path Some far).0

pub returns-clause-written : goal.returns-clause-written
returns-clause-written c = λ count i element path change far. (out_of_bounds count i element path change far).1
