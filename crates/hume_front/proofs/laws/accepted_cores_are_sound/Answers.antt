use Rattle.hume_front.proofs.Sources.{formed, wired, handled, within}
use Rattle.hume_front.proofs.laws.accepted_cores_are_sound.Goals as goal

pub returns-clause-formed : goal.returns-clause-formed
returns-clause-formed c = formed

pub returns-clause-wired : goal.returns-clause-wired
returns-clause-wired c = wired

pub returns-clause-handled : goal.returns-clause-handled
returns-clause-handled c = handled

pub returns-clause-within : goal.returns-clause-within
returns-clause-within c = within
