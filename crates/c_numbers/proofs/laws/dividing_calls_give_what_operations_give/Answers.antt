use Rattle.c_numbers.proofs.Agreeing.{quotients_agree, rests_agree}
use Rattle.c_numbers.proofs.laws.dividing_calls_give_what_operations_give.Goals as goal

pub returns-clause-quotients : goal.returns-clause-quotients
returns-clause-quotients c = quotients_agree

pub returns-clause-rests : goal.returns-clause-rests
returns-clause-rests c = rests_agree
