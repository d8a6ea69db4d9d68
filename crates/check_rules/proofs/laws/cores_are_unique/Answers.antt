use Rattle.check_rules.proofs.CoresOnce.{the_core}
use Rattle.check_rules.proofs.laws.cores_are_unique.Goals as goal

pub returns : goal.returns
returns c = λ text program a b p q. the_core text program a b p q
