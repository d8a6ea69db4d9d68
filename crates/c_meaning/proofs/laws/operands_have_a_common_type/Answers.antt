use Rattle.c_meaning.proofs.Operations.{left_converts, right_converts}
use Rattle.c_meaning.proofs.laws.operands_have_a_common_type.Goals as goal

pub returns-clause-left : goal.returns-clause-left
returns-clause-left c = left_converts

pub returns-clause-right : goal.returns-clause-right
returns-clause-right c = right_converts
