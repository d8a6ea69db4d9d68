use Rattle.c_meaning.proofs.Ranges.{conversion_keeps, in_range}
use Rattle.c_meaning.proofs.laws.conversions_keep_numbers.Goals as goal

pub returns : goal.returns
returns c = λ ty number h. conversion_keeps ty number (in_range ty number h)
