-- The state before the first superstep.
use Rattle.std.specs.Prelude.{ℕ, List, [], map, length, None}
use Rattle.std.specs.List.{range_with_len}
use Rattle.std.specs.Option.{option_to_list}
use Rattle.hume_base.specs.declared.types.Value.{Value}
use Rattle.hume_model.specs.declared.core_tree.NodeC.{NodeC}
use Rattle.hume_model.specs.declared.core_tree.NodeC.TheVariants.{Rules, From, To}
use Rattle.hume_model.specs.declared.core_tree.Core.{Core}
use Rattle.hume_net.specs.declared.state.State.{State}
use Rattle.hume_net.specs.Sides.{each_node}

-- a box tries its rules in the order in which they are written
abbrev pub written_order : NodeC → List ℕ
written_order (Rules b) = range_with_len 0 (length b.rules)
written_order (From stream) = []
written_order (To stream) = []

-- no values, for each node
abbrev pub no_values : Core → List (List Value)
no_values core = each_node core (λ node. [])

-- on each wire its initial value alone, or nothing; nothing pending or taken; and for each node the values that are to come
abbrev pub start : Core → List (List Value) → State
start core coming = record {
  wires = map (λ wire. option_to_list wire.initial) core.wires;
  pending = each_node core (λ node. None);
  orders = map written_order core.nodes;
  coming = coming;
  taken = no_values core;
}
