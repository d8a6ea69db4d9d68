-- What a node sees on the wires that are found once for it.
use Rattle.std.proofs.Common.{◌≡◌, ℕ, List, [], Bool, map, length, Option, Some, slice_get, ap, sym, ◌∙◌}
use Rattle.std.proofs.lemmas.Option.{slice_get_within}
use Rattle.std.proofs.lemmas.Simd.{map-map}
use Rattle.std.specs.List.{range_with_len}
use Rattle.std.specs.Option.{unwrap_or}
use Rattle.hume_base.specs.declared.types.Value.{Value}
use Rattle.hume_model.specs.declared.core_tree.NodeC.{NodeC}
use Rattle.hume_model.specs.declared.core_tree.Core.{Core}
use Rattle.hume_model.specs.Wiring.{inputs_of, outputs_of}
use Rattle.hume_net.specs.declared.ends.Ends.{Ends}
use Rattle.hume_net.specs.declared.state.Part.{Part}
use Rattle.hume_net.specs.declared.state.State.{State}
use Rattle.hume_net.specs.HalfSteps.{execute, super_step}
use Rattle.hume_net.specs.Sides.{on_found, room_on, part_of, wire_to, wire_from, rooms, executed, executed_at, stepped, stepped_at}
use Rattle.hume_net.specs.inner.Ends.{ends_of, input_wires, output_wires}
use Rattle.hume_net.proofs.Gathered.{numbered_get}

module _ (core : Core) (ends : Ends) (known : ends ≡ ends_of core) (state : State) (number : ℕ) (node : NodeC) (is : slice_get core.nodes number ≡ Some node) where
  through_inputs : {X : Type 0} (f : Option ℕ → X) → map f (unwrap_or (slice_get ends.inputs number) []) ≡ map (λ input. f (wire_to core number input)) (range_with_len 0 (inputs_of node))
  through_inputs f =
      ap (λ (e : Ends). map f (unwrap_or (slice_get e.inputs number) [])) known
      ∙ ap (λ o. map f (unwrap_or o [])) (numbered_get (length core.nodes) (λ n. input_wires core n (slice_get core.nodes n)) number (slice_get_within core.nodes number node is))
      ∙ ap (λ o. map f (input_wires core number o)) is
      ∙ map-map f (wire_to core number) (range_with_len 0 (inputs_of node))

  through_outputs : {X : Type 0} (f : Option ℕ → X) → map f (unwrap_or (slice_get ends.outputs number) []) ≡ map (λ output. f (wire_from core number output)) (range_with_len 0 (outputs_of node))
  through_outputs f =
      ap (λ (e : Ends). map f (unwrap_or (slice_get e.outputs number) [])) known
      ∙ ap (λ o. map f (unwrap_or o [])) (numbered_get (length core.nodes) (λ n. output_wires core n (slice_get core.nodes n)) number (slice_get_within core.nodes number node is))
      ∙ ap (λ o. map f (output_wires core number o)) is
      ∙ map-map f (wire_from core number) (range_with_len 0 (outputs_of node))

  pub executes_seen : (part : Part) (wires : List (List Value)) → part ≡ part_of state number
      → wires ≡ map (on_found state) (unwrap_or (slice_get ends.inputs number) []) → execute core node part wires ≡ executed core state number
  executes_seen part wires its seen =
      ap (λ p. execute core node p wires) its
      ∙ ap (execute core node (part_of state number)) (seen ∙ through_inputs (on_found state))
      ∙ ap (executed_at core state number) (sym is)

  pub asserts_seen : (part : Part) (found : List Bool) (wires : List (List Value)) → part ≡ part_of state number
      → found ≡ map (room_on core state) (unwrap_or (slice_get ends.outputs number) [])
      → wires ≡ map (on_found state) (unwrap_or (slice_get ends.outputs number) []) → super_step node part found wires ≡ stepped core state number
  asserts_seen part found wires its roomy seen =
      ap (λ p. super_step node p found wires) its
      ∙ ap (λ r. super_step node (part_of state number) r wires) (roomy ∙ through_outputs (room_on core state))
      ∙ ap (super_step node (part_of state number) (rooms core state number node)) (seen ∙ through_outputs (on_found state))
      ∙ ap (stepped_at core state number) (sym is)
