use Rattle.check_rules.proofs.CoreTyped.{functions_typed, boxes_typed}
use Rattle.check_rules.proofs.BoxFrames.{box_has_frame}
use Rattle.check_rules.proofs.laws.functions_and_boxes_are_typed.Goals as goal

pub returns-clause-functions : goal.returns-clause-functions
returns-clause-functions c text program core fine p = functions_typed text program core fine p

pub returns-clause-boxes : goal.returns-clause-boxes
returns-clause-boxes c text program core fine p = boxes_typed text program core fine p

pub returns-clause-frames : goal.returns-clause-frames
returns-clause-frames c text program core fine p = box_has_frame text program core fine p
