use Rattle.model_bare.proofs.Frames.{bare_frame}
use Rattle.model_bare.proofs.laws.bare_forms_keep_the_frame.Goals as goal

pub returns : goal.returns
returns c = bare_frame
