use Rattle.wiring_check.proofs.TheWires.{are_wired}
use Rattle.wiring_check.proofs.SomeWiring.{some_wiring}
use Rattle.wiring_check.proofs.laws.fine_wires_have_a_wiring.Goals as goal

pub returns : goal.returns
returns c = λ core fine. some_wiring core (are_wired core fine)
