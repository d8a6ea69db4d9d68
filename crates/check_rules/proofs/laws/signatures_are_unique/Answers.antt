use Rattle.check_rules.proofs.SignaturesOnce.{the_signatures}
use Rattle.check_rules.proofs.laws.signatures_are_unique.Goals as goal

pub returns : goal.returns
returns c = λ decls s t p q. the_signatures decls s t p q
