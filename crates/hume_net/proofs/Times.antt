-- The state at the next time is what the half steps at a time make; and what a half step rests on.
use Rattle.std.proofs.Common.{◌≡◌, ℕ, suc, ◌+◌, ◌/◌, ◌%◌, if◌then◌else◌, [], Option, Some, None, slice_get, refl, ap, sym, ◌∙◌, arith}
use Rattle.std.proofs.lemmas.Bool.{and_parts, eqb-true, eq-eqb, ne_eqb}
use Rattle.hume_model.specs.declared.core_tree.NodeC.{NodeC}
use Rattle.hume_model.specs.declared.core_tree.WireC.{WireC}
use Rattle.hume_model.specs.declared.core_tree.Core.{Core}
use Rattle.hume_model.specs.Wiring.{leads_to, comes_from, inputs_of, outputs_of}
use Rattle.hume_net.specs.declared.state.State.{State}
use Rattle.hume_net.specs.HalfSteps.{execute, super_step, idle}
use Rattle.hume_net.specs.Sides.{numbered, on_wire, on_found, has_room, room_on, part_of, wire_to, wire_from, inputs, outputs, rooms, executed, executed_at, stepped, stepped_at, left_by}
use Rattle.hume_net.specs.Lockstep.{mid, up, superstep, lockstep, at_time, node_at, wire_at, executes, supers}
use Rattle.hume_net.proofs.FirstFound.{position_at}
use Rattle.hume_net.proofs.Gathered.{mid_part, up_part, mid_wire, up_wire}

-- times

module _ (core : Core) (s : State) (time : ℕ) where
  pub even_state : time % 2 ≡ 0 → at_time core s time ≡ lockstep core s (time / 2)
  even_state even = ap (λ b. if b then lockstep core s (time / 2) else mid core (lockstep core s (time / 2))) (eq-eqb (time % 2) 0 even)

  odd_state : time % 2 ≡ 1 → at_time core s time ≡ mid core (lockstep core s (time / 2))
  odd_state odd =
      ap (λ b. if b then lockstep core s (time / 2) else mid core (lockstep core s (time / 2))) (ne_eqb (time % 2) 0 (λ e. (let h : ⊥ = omega (arith, e, odd) in h)))

pub after_even : (core : Core) (s : State) (time : ℕ) → time % 2 ≡ 0 → at_time core s (time + 1) ≡ mid core (at_time core s time)
after_even core s time even =
    let odd : (time + 1) % 2 ≡ 1 = omega (arith, even) in
    let half : (time + 1) / 2 ≡ time / 2 = omega (arith, even) in
    odd_state core s (time + 1) odd ∙ ap (λ k. mid core (lockstep core s k)) half ∙ ap (mid core) (sym (even_state core s time even))

pub after_odd : (core : Core) (s : State) (time : ℕ) → time % 2 ≡ 1 → at_time core s (time + 1) ≡ up core (at_time core s time)
unfolding lockstep superstep
after_odd core s time odd =
    let even : (time + 1) % 2 ≡ 0 = omega (arith, odd) in
    let half : (time + 1) / 2 ≡ suc (time / 2) = omega (arith, odd) in
    even_state core s (time + 1) even ∙ ap (lockstep core s) half ∙ ap (up core) (sym (odd_state core s time odd))

module _ (core : Core) (s : State) (time : ℕ) where
  pub part_after_even : (n : ℕ) (node : NodeC) → slice_get core.nodes n ≡ Some node → time % 2 ≡ 0
      → node_at core s n (time + 1) ≡ (executed core (at_time core s time) n).part
  part_after_even n node is even = ap (λ t. part_of t n) (after_even core s time even) ∙ mid_part core (at_time core s time) n node is

  pub part_after_odd : (n : ℕ) (node : NodeC) → slice_get core.nodes n ≡ Some node → time % 2 ≡ 1
      → node_at core s n (time + 1) ≡ (stepped core (at_time core s time) n).part
  part_after_odd n node is odd = ap (λ t. part_of t n) (after_odd core s time odd) ∙ up_part core (at_time core s time) n node is

  pub wire_after_even : (w : ℕ) (wire : WireC) → slice_get core.wires w ≡ Some wire → time % 2 ≡ 0
      → wire_at core s w (time + 1) ≡ left_by (executed core (at_time core s time) wire.to) wire.to_port
  wire_after_even w wire found even = ap (λ t. on_wire t w) (after_even core s time even) ∙ mid_wire core (at_time core s time) w wire found

  pub wire_after_odd : (w : ℕ) (wire : WireC) → slice_get core.wires w ≡ Some wire → time % 2 ≡ 1
      → wire_at core s w (time + 1) ≡ left_by (stepped core (at_time core s time) wire.from) wire.from_port
  wire_after_odd w wire found odd = ap (λ t. on_wire t w) (after_odd core s time odd) ∙ up_wire core (at_time core s time) w wire found

-- counts of half steps

pub all_counted : (time : ℕ) → executes time + supers time ≡ time
all_counted time = omega (arith)

pub even_counted : (time : ℕ) → time % 2 ≡ 0 → (executes (time + 1) ≡ executes time + 1) × (supers (time + 1) ≡ supers time)
even_counted time even = (omega (arith, even), omega (arith, even))

pub odd_counted : (time : ℕ) → time % 2 ≡ 1 → (executes (time + 1) ≡ executes time) × (supers (time + 1) ≡ supers time + 1)
odd_counted time odd = (omega (arith, odd), omega (arith, odd))

-- sides

module _ (core : Core) (s t : State) (n : ℕ) (same : part_of s n ≡ part_of t n) where
  module _ (alike : (w : ℕ) (wire : WireC) → slice_get core.wires w ≡ Some wire → wire.to ≡ n → on_wire s w ≡ on_wire t w) where
    same_input : (input : ℕ) (at : Option ℕ) → wire_to core n input ≡ at → on_found s at ≡ on_found t at
    same_input input None here = refl
    same_input input (Some w) here =
        let found = position_at (leads_to n input) core.wires w here in
        alike w found.0 found.1 (eqb-true _ _ (and_parts _ _ found.2).0)

    pub same_inputs : (node : NodeC) → inputs core s n node ≡ inputs core t n node
    same_inputs node = ap (λ f. numbered (inputs_of node) f) (λ i input. same_input input (wire_to core n input) refl i)

    executed_from : (o : Option NodeC) → executed_at core s n o ≡ executed_at core t n o
    executed_from None = ap (λ part. idle part []) same
    executed_from (Some node) = ap (λ part. execute core node part (inputs core s n node)) same ∙ ap (execute core node (part_of t n)) (same_inputs node)

    pub same_executed : executed core s n ≡ executed core t n
    same_executed = executed_from (slice_get core.nodes n)

  module _ (alike : (w : ℕ) (wire : WireC) → slice_get core.wires w ≡ Some wire → wire.from ≡ n → on_wire s w ≡ on_wire t w) where
    same_output : (output : ℕ) (at : Option ℕ) → wire_from core n output ≡ at → on_found s at ≡ on_found t at
    same_output output None here = refl
    same_output output (Some w) here =
        let found = position_at (comes_from n output) core.wires w here in
        alike w found.0 found.1 (eqb-true _ _ (and_parts _ _ found.2).0)

    same_room : (output : ℕ) (at : Option ℕ) → wire_from core n output ≡ at → room_on core s at ≡ room_on core t at
    same_room output None here = refl
    same_room output (Some w) here = ap (has_room (slice_get core.wires w)) (same_output output (Some w) here)

    same_outputs : (node : NodeC) → outputs core s n node ≡ outputs core t n node
    same_outputs node = ap (λ f. numbered (outputs_of node) f) (λ i output. same_output output (wire_from core n output) refl i)

    same_rooms : (node : NodeC) → rooms core s n node ≡ rooms core t n node
    same_rooms node = ap (λ f. numbered (outputs_of node) f) (λ i output. same_room output (wire_from core n output) refl i)

    stepped_from : (o : Option NodeC) → stepped_at core s n o ≡ stepped_at core t n o
    stepped_from None = ap (λ part. idle part []) same
    stepped_from (Some node) =
        ap (λ part. super_step node part (rooms core s n node) (outputs core s n node)) same
        ∙ ap (λ rooms. super_step node (part_of t n) rooms (outputs core s n node)) (same_rooms node)
        ∙ ap (super_step node (part_of t n) (rooms core t n node)) (same_outputs node)

    pub same_stepped : stepped core s n ≡ stepped core t n
    same_stepped = stepped_from (slice_get core.nodes n)
