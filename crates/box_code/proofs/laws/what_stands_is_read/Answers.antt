use Rattle.box_code.proofs.ReadBack.{read_there}
use Rattle.box_code.proofs.laws.what_stands_is_read.Goals as goal

pub returns : goal.returns
returns c = λ code at instr next stands. read_there code at instr next stands
