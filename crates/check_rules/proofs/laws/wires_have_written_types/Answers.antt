use Rattle.check_rules.proofs.PortsWritten.{wire_written}
use Rattle.check_rules.proofs.laws.wires_have_written_types.Goals as goal

pub returns : goal.returns
returns c = λ text program core fine fit p. wire_written text program core fine fit p
