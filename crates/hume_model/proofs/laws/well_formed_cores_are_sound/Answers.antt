use Rattle.hume_model.proofs.WellFormedCores.{sound_parts, small_boxes}
use Rattle.hume_model.proofs.laws.well_formed_cores_are_sound.Goals as goal

pub returns-clause-parts : goal.returns-clause-parts
returns-clause-parts c = sound_parts

pub returns-clause-small : goal.returns-clause-small
returns-clause-small c = small_boxes
