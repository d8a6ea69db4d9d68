use Rattle.c_meaning.proofs.SoundExpressions.{meant_sound}
use Rattle.c_meaning.proofs.SoundPrograms.{call_sound, file_sound}
use Rattle.c_meaning.proofs.laws.numbers_stay_within_their_types.Goals as goal

pub returns-clause-expressions : goal.returns-clause-expressions
returns-clause-expressions c = λ exp context value sound. (meant_sound context sound exp).value value

pub returns-clause-files : goal.returns-clause-files
returns-clause-files c = file_sound

pub returns-clause-calls : goal.returns-clause-calls
returns-clause-calls c = call_sound
