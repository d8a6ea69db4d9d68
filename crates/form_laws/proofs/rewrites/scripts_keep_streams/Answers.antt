use Rattle.box_calculus.proofs.KeptByLines.{same_nets}
use Rattle.form_laws.proofs.RewrittenNodes.{same_input_streams, same_output_streams, same_streams}
use Rattle.form_laws.proofs.rewrites.scripts_keep_streams.Goals as goal

pub returns-clause-all : goal.returns-clause-all
returns-clause-all c core new script made = same_streams core new (same_nets core new script made)

pub returns-clause-inputs : goal.returns-clause-inputs
returns-clause-inputs c core new script made = same_input_streams core new (same_nets core new script made)

pub returns-clause-outputs : goal.returns-clause-outputs
returns-clause-outputs c core new script made = same_output_streams core new (same_nets core new script made)
