use Rattle.hume_front.proofs.Sources.{sound_formed, sound_wired, sound_handled}
use Rattle.hume_front.proofs.laws.sound_cores_are_wired.Goals as goal

pub returns-clause-formed : goal.returns-clause-formed
returns-clause-formed c = sound_formed

pub returns-clause-wired : goal.returns-clause-wired
returns-clause-wired c = sound_wired

pub returns-clause-handled : goal.returns-clause-handled
returns-clause-handled c = sound_handled
