use Rattle.check_rules.proofs.WiresEnd.{wire_ends}
use Rattle.check_rules.proofs.laws.wires_have_their_ends.Goals as goal

pub returns : goal.returns
returns c = λ text program core fine fit p. wire_ends text program core fine fit p
