use Rattle.form_laws.proofs.FirstProgram.{first_program}
use Rattle.form_laws.proofs.unions.unions_begin_with_their_first_program.Goals as goal

pub returns : goal.returns
returns c = λ first others formed. first_program first others formed.frame.exceptions
