use Rattle.form_laws.proofs.RewrittenNodes.{starts_alike}
use Rattle.form_laws.proofs.rewrites.scripts_keep_starts.Goals as goal

pub returns : goal.returns
returns c = starts_alike
