use Rattle.box_code.proofs.Growing.{appended, appended_fields}
use Rattle.box_code.proofs.laws.what_is_appended_stands.Goals as goal

pub returns-clause-instructions : goal.returns-clause-instructions
returns-clause-instructions c = λ code instr fields next fits path long. appended code instr fields next fits path long

pub returns-clause-paths : goal.returns-clause-paths
returns-clause-paths c = λ code instr fields path at long. appended_fields code instr fields path at long
