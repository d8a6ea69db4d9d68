use Rattle.calculus_laws.proofs.KeptTypes.{exceptions_kept, nodes_kept, others_kept, types_kept, wires_stay}
use Rattle.calculus_laws.proofs.laws.rewrites_keep_types.Goals as goal

pub returns-clause-types : goal.returns-clause-types
returns-clause-types c = types_kept

pub returns-clause-exceptions : goal.returns-clause-exceptions
returns-clause-exceptions c = exceptions_kept

pub returns-clause-wires : goal.returns-clause-wires
returns-clause-wires c = wires_stay

pub returns-clause-nodes : goal.returns-clause-nodes
returns-clause-nodes c = nodes_kept

pub returns-clause-others : goal.returns-clause-others
returns-clause-others c = others_kept
