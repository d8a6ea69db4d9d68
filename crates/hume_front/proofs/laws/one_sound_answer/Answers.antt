use Rattle.hume_front.proofs.SoundSources.{sound_or_not, not_both}
use Rattle.hume_front.proofs.Sources.{one_sound_core, sound_and_accepted}
use Rattle.hume_front.proofs.laws.one_sound_answer.Goals as goal

pub returns-clause-some : goal.returns-clause-some
returns-clause-some c = sound_or_not

pub returns-clause-apart : goal.returns-clause-apart
returns-clause-apart c = not_both

pub returns-clause-core : goal.returns-clause-core
returns-clause-core c = one_sound_core

pub returns-clause-accepted : goal.returns-clause-accepted
returns-clause-accepted c = sound_and_accepted
