use Rattle.form_laws.proofs.RewrittenInputs.{same_inputs}
use Rattle.form_laws.proofs.rewrites.scripts_keep_inputs.Goals as goal

pub returns : goal.returns
returns c = same_inputs
