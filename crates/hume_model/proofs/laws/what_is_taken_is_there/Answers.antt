use Rattle.hume_model.proofs.Positions.{taken_is_there}
use Rattle.hume_model.proofs.laws.what_is_taken_is_there.Goals as goal

pub returns : goal.returns
returns c = λ pats ins i fit taken. taken_is_there pats ins i fit taken
