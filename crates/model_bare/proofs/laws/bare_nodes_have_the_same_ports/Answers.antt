use Rattle.model_bare.proofs.Frames.{same_inputs, same_outputs, same_kind}
use Rattle.model_bare.proofs.laws.bare_nodes_have_the_same_ports.Goals as goal

pub returns-clause-inputs : goal.returns-clause-inputs
returns-clause-inputs c = same_inputs

pub returns-clause-outputs : goal.returns-clause-outputs
returns-clause-outputs c = same_outputs

pub returns-clause-kind : goal.returns-clause-kind
returns-clause-kind c = same_kind
