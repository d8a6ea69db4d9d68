-- States that are put together from a part for each node and values for each wire.
use Rattle.std.specs.Prelude.{◌≡◌, ℕ, List, length}
use Rattle.hume_base.specs.declared.types.Value.{Value}
use Rattle.hume_model.specs.declared.core_tree.Core.{Core}
use Rattle.hume_net.specs.declared.state.Part.{Part}
use Rattle.hume_net.specs.declared.state.State.{State}
use Rattle.hume_net.specs.Sides.{numbered, each_node}

-- the state of a core's net in which each node has its part and each wire its values
abbrev pub state_of : Core → (ℕ → Part) → (ℕ → List Value) → State
state_of core part values = record {
  wires = numbered (length core.wires) values;
  pending = each_node core (λ n. (part n).pending);
  orders = each_node core (λ n. (part n).order);
  coming = each_node core (λ n. (part n).coming);
  taken = each_node core (λ n. (part n).taken);
}

-- the state has a place for each wire and each node of the core
pub record IsStateOf (core : Core) (state : State) : Type 0 where
  pub wires : length state.wires ≡ length core.wires
  pub pending : length state.pending ≡ length core.nodes
  pub orders : length state.orders ≡ length core.nodes
  pub coming : length state.coming ≡ length core.nodes
  pub taken : length state.taken ≡ length core.nodes
