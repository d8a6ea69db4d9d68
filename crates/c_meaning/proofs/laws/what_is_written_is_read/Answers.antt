use Rattle.c_meaning.proofs.Paths.{assigned, written}
use Rattle.c_meaning.proofs.laws.what_is_written_is_read.Goals as goal

pub returns-clause-numbers : goal.returns-clause-numbers
returns-clause-numbers c = assigned

pub returns-clause-changes : goal.returns-clause-changes
returns-clause-changes c = written
