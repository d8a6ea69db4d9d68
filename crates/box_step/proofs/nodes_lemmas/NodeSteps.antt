-- What the bare form of a core says of a node's side, and what the half step of a node leaves at the next time.
use Rattle.std.proofs.Common.{◌≡◌, ℕ, ◌+◌, ◌%◌, List, [], Some, slice_get, ap, sym, ◌∙◌}
use Rattle.std.specs.Option.{unwrap_or}
use Rattle.hume_model.specs.declared.core_tree.NodeC.{NodeC}
use Rattle.hume_model.specs.declared.core_tree.WireC.{WireC}
use Rattle.hume_model.specs.declared.core_tree.Core.{Core}
use Rattle.hume_model.specs.Wiring.{inputs_of, outputs_of}
use Rattle.hume_net.specs.declared.state.State.{State}
use Rattle.hume_net.specs.declared.state.HalfStep.{HalfStep}
use Rattle.hume_net.specs.HalfSteps.{execute, super_step}
use Rattle.hume_net.specs.Lockstep.{at_time, node_at, wire_at}
use Rattle.hume_net.specs.Sides.{inputs, outputs, rooms, executed, executed_at, stepped, stepped_at, left_by, wire_to, wire_from}
use Rattle.hume_net.proofs.FoundWires.{to_leads, from_comes}
use Rattle.hume_net.proofs.Times.{part_after_even, part_after_odd, wire_after_even, wire_after_odd}
use Rattle.model_bare.specs.Bare.{bare_of, bare_node}
use Rattle.model_bare.proofs.Frames.{same_inputs, same_outputs}
use Rattle.model_bare.proofs.SameCores.{node_there}
use Rattle.wire_cells.specs.Cells.{CellView}
use Rattle.box_step.specs.nodes.Sides.{AreOfSide, AreInputs, AreOutputs, inputs_there, outputs_there}

module _ (core bare : Core) (core_is : bare ≡ bare_of core) (n : ℕ) (node : NodeC) (there : slice_get core.nodes n ≡ Some node) where
  bare_there : slice_get bare.nodes n ≡ Some (bare_node node)
  bare_there = ap (λ (c : Core). slice_get c.nodes n) core_is ∙ node_there core n node there

  pub whole_inputs : {time : ℕ} {cells : List CellView} → AreInputs bare n time cells → AreOfSide (inputs_of node) (wire_to core n) time cells
  whole_inputs side = record {
    long = side.long ∙ ap inputs_there bare_there ∙ same_inputs node;
    each = λ place cell c. sym (ap (λ (x : Core). wire_to x n place) core_is) ∙ side.each place cell c;
    times = side.times;
  }

  pub whole_outputs : {time : ℕ} {cells : List CellView} → AreOutputs bare n time cells → AreOfSide (outputs_of node) (wire_from core n) time cells
  whole_outputs side = record {
    long = side.long ∙ ap outputs_there bare_there ∙ same_outputs node;
    each = λ place cell c. sym (ap (λ (x : Core). wire_from x n place) core_is) ∙ side.each place cell c;
    times = side.times;
  }

module _ (core : Core) (s : State) (n time : ℕ) (node : NodeC) (there : slice_get core.nodes n ≡ Some node) where
  abbrev pub executed_half : HalfStep
  executed_half = execute core node (node_at core s n time) (inputs core (at_time core s time) n node)

  abbrev pub stepped_half : HalfStep
  stepped_half = super_step node (node_at core s n time) (rooms core (at_time core s time) n node) (outputs core (at_time core s time) n node)

  module _ (even : time % 2 ≡ 0) where
    pub part_executed : node_at core s n (time + 1) ≡ executed_half.part
    part_executed = part_after_even core s time n node there even ∙ ap (λ o. (executed_at core (at_time core s time) n o).part) there

    pub input_left : (place w : ℕ) (wire : WireC) → wire_to core n place ≡ Some w → slice_get core.wires w ≡ Some wire
        → wire_at core s w (time + 1) ≡ unwrap_or (slice_get executed_half.side place) []
    input_left place w wire at found =
        let first = to_leads core n place w at in
        let same : first.0 ≡ wire = (let both : Some first.0 ≡ Some wire = sym first.1 ∙ found in cc) in
        let to : wire.to ≡ n = ap (λ (x : WireC). x.to) (sym same) ∙ first.2 in
        let port : wire.to_port ≡ place = ap (λ (x : WireC). x.to_port) (sym same) ∙ first.3 in
        wire_after_even core s time w wire found even
        ∙ ap (λ k. left_by (executed core (at_time core s time) k) wire.to_port) to
        ∙ ap (λ o. left_by (executed_at core (at_time core s time) n o) wire.to_port) there
        ∙ ap (left_by executed_half) port

  module _ (odd : time % 2 ≡ 1) where
    pub part_stepped : node_at core s n (time + 1) ≡ stepped_half.part
    part_stepped = part_after_odd core s time n node there odd ∙ ap (λ o. (stepped_at core (at_time core s time) n o).part) there

    pub output_left : (place w : ℕ) (wire : WireC) → wire_from core n place ≡ Some w → slice_get core.wires w ≡ Some wire
        → wire_at core s w (time + 1) ≡ unwrap_or (slice_get stepped_half.side place) []
    output_left place w wire at found =
        let first = from_comes core n place w at in
        let same : first.0 ≡ wire = (let both : Some first.0 ≡ Some wire = sym first.1 ∙ found in cc) in
        let from : wire.from ≡ n = ap (λ (x : WireC). x.from) (sym same) ∙ first.2 in
        let port : wire.from_port ≡ place = ap (λ (x : WireC). x.from_port) (sym same) ∙ first.3 in
        wire_after_odd core s time w wire found odd
        ∙ ap (λ k. left_by (stepped core (at_time core s time) k) wire.from_port) from
        ∙ ap (λ o. left_by (stepped_at core (at_time core s time) n o) wire.from_port) there
        ∙ ap (left_by stepped_half) port
