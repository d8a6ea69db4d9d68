use Rattle.box_step.proofs.AcceptedBoxes.{takes_little}
use Rattle.box_step.proofs.laws.programs_of_boxes_take_little.Goals as goal

pub returns : goal.returns
returns c = takes_little
