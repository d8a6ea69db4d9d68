use Rattle.check_rules.proofs.FunctionsOrdered.{calls_go_down}
use Rattle.check_rules.proofs.laws.calls_go_down.Goals as goal

pub returns : goal.returns
returns c = λ text program core fine p. calls_go_down text program core p
