-- Which wires the inputs and outputs of the nodes have, as a net finds them once.
use Rattle.std.specs.Prelude.{ℕ, List, [], Option, None, Some, slice_get}
use Rattle.hume_model.specs.declared.core_tree.NodeC.{NodeC}
use Rattle.hume_model.specs.declared.core_tree.Core.{Core}
use Rattle.hume_model.specs.Wiring.{inputs_of, outputs_of}
use Rattle.hume_net.specs.declared.ends.Ends.{Ends}
use Rattle.hume_net.specs.Sides.{numbered, each_node, wire_to, wire_from}

-- the numbers of the wires of a node's inputs, and of its outputs
abbrev pub input_wires : Core → ℕ → Option NodeC → List (Option ℕ)
input_wires core number None = []
input_wires core number (Some node) = numbered (inputs_of node) (wire_to core number)

abbrev pub output_wires : Core → ℕ → Option NodeC → List (Option ℕ)
output_wires core number None = []
output_wires core number (Some node) = numbered (outputs_of node) (wire_from core number)

-- those of all nodes
abbrev pub ends_of : Core → Ends
ends_of core = record {
  inputs = each_node core (λ n. input_wires core n (slice_get core.nodes n));
  outputs = each_node core (λ n. output_wires core n (slice_get core.nodes n));
}
