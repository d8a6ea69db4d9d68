use Rattle.match_rules.proofs.SideCells.{input_cells}
use Rattle.match_rules.proofs.laws.cells_of_wires_are_inputs.Goals as goal

pub returns : goal.returns
returns c = λ core state node b cells agree there long each. input_cells core state node b agree there cells long each
