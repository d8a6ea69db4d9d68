use Rattle.c_numbers.proofs.Agreeing.{conversions_agree}
use Rattle.c_numbers.proofs.laws.converting_calls_give_what_conversions_give.Goals as goal

pub returns : goal.returns
returns c = conversions_agree
