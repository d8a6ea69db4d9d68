use Rattle.c_meaning.proofs.Paths.{others_fall}
use Rattle.c_meaning.proofs.laws.one_member_of_a_union_is_read.Goals as goal

pub returns : goal.returns
returns c = others_fall
