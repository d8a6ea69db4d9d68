use Rattle.hume_front.proofs.OneProgram.{one_program}
use Rattle.hume_front.proofs.Sources.{one_accepted_core}
use Rattle.hume_front.proofs.laws.one_program.Goals as goal

pub returns-clause-program : goal.returns-clause-program
returns-clause-program c = one_program

pub returns-clause-core : goal.returns-clause-core
returns-clause-core c = one_accepted_core
