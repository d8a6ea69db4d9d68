use Rattle.c_meaning.proofs.SoundPrograms.{calls_compute}
use Rattle.c_meaning.proofs.laws.calls_within_expressions_change_nothing.Goals as goal

pub returns : goal.returns
returns c = calls_compute
