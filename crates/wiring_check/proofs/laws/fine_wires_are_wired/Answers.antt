use Rattle.wiring_check.proofs.TheWires.{are_wired, wires_agree}
use Rattle.wiring_check.proofs.laws.fine_wires_are_wired.Goals as goal

pub returns-clause-wired : goal.returns-clause-wired
returns-clause-wired c core formed fine = are_wired core fine

pub returns-clause-agree : goal.returns-clause-agree
returns-clause-agree c core formed fine = wires_agree core fine formed.frame.wires
