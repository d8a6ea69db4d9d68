use Rattle.box_code.proofs.Growing.{still_at, still, still_equations, still_bound}
use Rattle.box_code.proofs.laws.code_may_grow.Goals as goal

pub returns-clause-instructions : goal.returns-clause-instructions
returns-clause-instructions c = λ code more at instr next stands. still_at code more at instr next stands

pub returns-clause-expressions : goal.returns-clause-expressions
returns-clause-expressions c = λ code more entry places high from to e stands. still code more entry stands

pub returns-clause-functions : goal.returns-clause-functions
returns-clause-functions c = λ code more entry count from equations stands. still_equations code more entry stands

pub returns-clause-results : goal.returns-clause-results
returns-clause-results c = λ code more entry high spots res from stands. still_bound code more entry stands
