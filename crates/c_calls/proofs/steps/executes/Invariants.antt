use Rattle.std.proofs.Common.{◌≡◌, ◌++◌, drop}
use Rattle.std.specs.List.{flat_map}
use Rattle.c_calls.specs.Steps.{execute_of}
use Rattle.c_calls.proofs.steps.executes.Given as goal

abbrev pub invariant-loop-node : goal.invariant-loop-node
invariant-loop-node l = l.statements ++ flat_map (execute_of l.names) (drop l.node-index l.nodes) ≡ flat_map (execute_of l.names) l.nodes
