use Rattle.check_rules.proofs.CoreTyped.{own_first}
use Rattle.check_rules.proofs.laws.cores_have_their_exceptions.Goals as goal

pub returns : goal.returns
returns c = λ text program core fine p. own_first text program core p
