use Rattle.box_calculus.proofs.KeptByLines.{same_nets}
use Rattle.box_calculus.proofs.laws.scripts_keep_nets.Goals as goal

pub returns : goal.returns
returns c = same_nets
