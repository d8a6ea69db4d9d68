use Rattle.c_meaning.proofs.Operations.{zero_quotient, zero_rest}
use Rattle.c_meaning.proofs.laws.zero_divides_nothing.Goals as goal

pub returns-clause-quotient : goal.returns-clause-quotient
returns-clause-quotient c = zero_quotient

pub returns-clause-rest : goal.returns-clause-rest
returns-clause-rest c = zero_rest
