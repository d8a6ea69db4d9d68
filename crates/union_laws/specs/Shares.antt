-- Which part of a united state is a program's own.
use Rattle.std.specs.Prelude.{ℕ, List, length, take, drop}
use Rattle.hume_model.specs.declared.core_tree.Core.{Core}
use Rattle.hume_net.specs.declared.state.State.{State}
use Rattle.union_laws.specs.Union.{united_all}

-- the first program's nodes and wires
abbrev pub left : Core → State → State
left a state = record {
  wires = take (length a.wires) state.wires;
  pending = take (length a.nodes) state.pending;
  orders = take (length a.nodes) state.orders;
  coming = take (length a.nodes) state.coming;
  taken = take (length a.nodes) state.taken;
}

-- those behind the first program's
abbrev pub right : Core → State → State
right a state = record {
  wires = drop (length a.wires) state.wires;
  pending = drop (length a.nodes) state.pending;
  orders = drop (length a.nodes) state.orders;
  coming = drop (length a.nodes) state.coming;
  taken = drop (length a.nodes) state.taken;
}

-- those of a program that stands at a place of a list
abbrev pub share : List Core → ℕ → Core → State → State
share programs place program state = left program (right (united_all (take place programs)) state)

-- how many nodes the programs before a place of a list have together
abbrev pub nodes_before : List Core → ℕ → ℕ
nodes_before programs place = length (united_all (take place programs)).nodes
