use Rattle.form_laws.proofs.FromTexts.{rounds_as_alone, writes_as_alone}
use Rattle.form_laws.proofs.unions.unions_write_what_each_program_writes_alone.Goals as goal

pub returns-clause-run : goal.returns-clause-run
returns-clause-run c = λ programs runnable apart texts coming are. writes_as_alone programs runnable texts coming are apart

pub returns-clause-rounds : goal.returns-clause-rounds
returns-clause-rounds c = λ programs runnable apart texts coming are. rounds_as_alone programs runnable texts coming are apart
