use Rattle.hume_model.proofs.AllOutputs.{all_outputs}
use Rattle.hume_model.proofs.laws.handled_boxes_give_all_outputs.Goals as goal

pub returns : goal.returns
returns c = all_outputs
