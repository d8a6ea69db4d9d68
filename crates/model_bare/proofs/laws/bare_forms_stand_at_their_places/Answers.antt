use Rattle.model_bare.proofs.SameCores.{same_count, node_there, node_was_there, box_was_there}
use Rattle.model_bare.proofs.laws.bare_forms_stand_at_their_places.Goals as goal

pub returns-clause-count : goal.returns-clause-count
returns-clause-count c = same_count

pub returns-clause-bare : goal.returns-clause-bare
returns-clause-bare c = node_there

pub returns-clause-whole : goal.returns-clause-whole
returns-clause-whole c = node_was_there

pub returns-clause-boxes : goal.returns-clause-boxes
returns-clause-boxes c = box_was_there
