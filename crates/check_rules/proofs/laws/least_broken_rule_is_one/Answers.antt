use Rattle.check_rules.specs.CheckRules.{BreaksCheck}
use Rattle.check_rules.proofs.OneFinding.{one_least}
use Rattle.check_rules.proofs.laws.least_broken_rule_is_one.Goals as goal

pub returns : goal.returns
returns c = λ decls x y p q. one_least (BreaksCheck decls) x y p q
