use Rattle.std.proofs.Common.{refl}
use Rattle.box_compile.proofs.BoxNumbers.{program_at, after_box, after_input, after_output}
use Rattle.box_compile.proofs.laws.boxes_have_their_programs.Goals as goal

pub returns-clause-at : goal.returns-clause-at
returns-clause-at c = program_at

pub returns-clause-first : goal.returns-clause-first
returns-clause-first c = λ core. refl

pub returns-clause-after_box : goal.returns-clause-after_box
returns-clause-after_box c = after_box

pub returns-clause-after_input : goal.returns-clause-after_input
returns-clause-after_input c = after_input

pub returns-clause-after_output : goal.returns-clause-after_output
returns-clause-after_output c = after_output
