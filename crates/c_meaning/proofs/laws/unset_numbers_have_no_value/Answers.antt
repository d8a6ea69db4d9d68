use Rattle.c_meaning.proofs.Statements.{unset_has_none}
use Rattle.c_meaning.proofs.laws.unset_numbers_have_no_value.Goals as goal

pub returns : goal.returns
returns c = unset_has_none
