use Rattle.form_laws.proofs.OwnInputs.{inputs_of_all, inputs_of_each}
use Rattle.form_laws.proofs.unions.unions_read_what_their_programs_read.Goals as goal

pub returns : goal.returns
returns c = λ programs formed texts coming. (inputs_of_each programs formed texts coming, inputs_of_all programs formed texts coming)
