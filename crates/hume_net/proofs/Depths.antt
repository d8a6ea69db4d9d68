-- In a wired core no wire holds more values than its depth.
use Rattle.std.proofs.Common.{◌≡◌, ℕ, zero, suc, ◌<◌, ◌≤◌, nat_lt, Bool, true, false, List, [], ◌∷◌, ◌++◌, length, Option, Some, None, slice_get, refl, ap, sym, ◌∙◌, subst, inl, inr, arith, length-append}
use Rattle.std.proofs.lemmas.Bool.{eq-eqb, ltb-true, cases_lt}
use Rattle.std.specs.Option.{option_to_list, unwrap_or}
use Rattle.hume_base.specs.declared.types.Value.{Value}
use Rattle.hume_model.specs.declared.core_tree.NodeC.{NodeC}
use Rattle.hume_model.specs.declared.core_tree.NodeC.TheVariants.{Rules, From, To}
use Rattle.hume_model.specs.declared.core_tree.WireC.{WireC}
use Rattle.hume_model.specs.declared.core_tree.Core.{Core}
use Rattle.hume_model.specs.Wiring.{leads_to, comes_from, inputs_of, outputs_of, IsWired}
use Rattle.hume_model.proofs.PatternTypes.{both_true}
use Rattle.hume_net.specs.declared.state.State.{State}
use Rattle.hume_net.specs.HalfSteps.{without_oldest}
use Rattle.hume_net.specs.Sides.{on_wire, on_found, has_room, room_on, part_of, wire_to, wire_from, inputs, outputs, rooms, executed_at, stepped_at}
use Rattle.hume_net.specs.Lockstep.{mid, up, superstep, lockstep}
use Rattle.hume_net.specs.Start.{start}
use Rattle.hume_net.specs.Depths.{WiresHaveDepth, IsWithinDepths}
use Rattle.hume_net.proofs.FirstFound.{position_is}
use Rattle.hume_net.proofs.Gathered.{numbered_get, numbered_past, mapped_at, mid_wire, up_wire}
use Rattle.hume_net.proofs.SideSteps.{on_side, execute_keeps, pending_keeps, next_keeps, MayAssert}
use Rattle.hume_net.proofs.Starts.{length-numbered}

module _ (core : Core) (wired : IsWired core) (s : State) (within : IsWithinDepths core s) (w : ℕ) (wire : WireC) (found : slice_get core.wires w ≡ Some wire) where
  abbrev Fits : List Value → Type 0
  Fits values = length values ≤ wire.depth

  later_fits : (values : List Value) → Fits values → Fits (without_oldest values)
  later_fits [] fits = fits
  later_fits (v ∷ later) fits = omega (arith, fits)

  -- the wire is the one that its consumer, or its producer, finds there
  its_input : (node : NodeC) → slice_get core.nodes wire.to ≡ Some node → wire.to_port < inputs_of node → wire_to core wire.to wire.to_port ≡ Some w
  its_input node is less =
      let the = wired.inputs wire.to wire.to_port node is less in
      position_is (leads_to wire.to wire.to_port) core.wires the.0 the.1
      ∙ ap Some (sym (the.1.alone w wire found (both_true _ _ (eq-eqb wire.to wire.to refl) (eq-eqb wire.to_port wire.to_port refl))))

  its_output : (node : NodeC) → slice_get core.nodes wire.from ≡ Some node → wire.from_port < outputs_of node → wire_from core wire.from wire.from_port ≡ Some w
  its_output node is less =
      let the = wired.outputs wire.from wire.from_port node is less in
      position_is (comes_from wire.from wire.from_port) core.wires the.0 the.1
      ∙ ap Some (sym (the.1.alone w wire found (both_true _ _ (eq-eqb wire.from wire.from refl) (eq-eqb wire.from_port wire.from_port refl))))

  input_fits : (node : NodeC) → slice_get core.nodes wire.to ≡ Some node → Fits (on_side (inputs core s wire.to node) wire.to_port)
  input_fits node is = elim (cases_lt wire.to_port (inputs_of node)) [
    | inl less ↦ subst (λ o. Fits (unwrap_or o [])) (sym (numbered_get (inputs_of node) (λ input. on_found s (wire_to core wire.to input)) wire.to_port less))
        (subst (λ at. Fits (on_found s at)) (sym (its_input node is less)) (within w wire found))
    | inr past ↦ subst (λ o. Fits (unwrap_or o [])) (sym (numbered_past 0 (inputs_of node) (λ input. on_found s (wire_to core wire.to input)) wire.to_port past)) (omega arith)
  ]

  executed_fits : (o : Option NodeC) → slice_get core.nodes wire.to ≡ o → Fits (on_side (executed_at core s wire.to o).side wire.to_port)
  executed_fits None is = omega arith
  executed_fits (Some node) is =
      execute_keeps Fits (omega arith) later_fits core node (part_of s wire.to) (inputs core s wire.to node) wire.to_port (input_fits node is)

  pub mid_fits : Fits (on_wire (mid core s) w)
  mid_fits = subst Fits (sym (mid_wire core s w wire found)) (executed_fits (slice_get core.nodes wire.to) refl)

  module _ (node : NodeC) (is : slice_get core.nodes wire.from ≡ Some node) where
    seen : wire.from_port < outputs_of node → on_side (outputs core s wire.from node) wire.from_port ≡ on_wire s w
    seen less =
        ap (λ o. unwrap_or o []) (numbered_get (outputs_of node) (λ output. on_found s (wire_from core wire.from output)) wire.from_port less)
        ∙ ap (on_found s) (its_output node is less)

    roomy : wire.from_port < outputs_of node → slice_get (rooms core s wire.from node) wire.from_port ≡ Some (nat_lt (length (on_wire s w)) wire.depth)
    roomy less =
        numbered_get (outputs_of node) (λ output. room_on core s (wire_from core wire.from output)) wire.from_port less
        ∙ ap (λ at. Some (room_on core s at)) (its_output node is less)
        ∙ ap (λ o. Some (has_room o (on_wire s w))) found

    output_fits : Fits (on_side (outputs core s wire.from node) wire.from_port)
    output_fits = elim (cases_lt wire.from_port (outputs_of node)) [
      | inl less ↦ subst Fits (sym (seen less)) (within w wire found)
      | inr past ↦ subst (λ o. Fits (unwrap_or o [])) (sym (numbered_past 0 (outputs_of node) (λ output. on_found s (wire_from core wire.from output)) wire.from_port past)) (omega arith)
    ]

    is_true : (b : Bool) → (b ≡ false → ⊥) → b ≡ true
    is_true true free = refl
    is_true false free = absurd (free refl)

    may_assert : (values : List (Option Value)) → MayAssert Fits (omega arith) values (rooms core s wire.from node) (outputs core s wire.from node) wire.from_port
    may_assert values v less here free =
        let there : wire.from_port < outputs_of node = subst (λ k. wire.from_port < k) (length-numbered (outputs_of node) (λ output. on_found s (wire_from core wire.from output))) less in
        let room = is_true (nat_lt (length (on_wire s w)) wire.depth) (λ e. free (roomy there ∙ ap Some e)) in
        let few : length (on_wire s w) < wire.depth = ltb-true (length (on_wire s w)) wire.depth room in
        subst (λ values. Fits (values ++ v ∷ [])) (sym (seen there)) (omega (arith, length-append (on_wire s w) (v ∷ []), few))

  stepped_fits : (o : Option NodeC) → slice_get core.nodes wire.from ≡ o → Fits (on_side (stepped_at core s wire.from o).side wire.from_port)
  stepped_fits None is = omega arith
  stepped_fits (Some (Rules b)) is =
      pending_keeps Fits (omega arith) (part_of s wire.from) (rooms core s wire.from (Rules b)) (outputs core s wire.from (Rules b)) (part_of s wire.from).pending wire.from_port
      (output_fits (Rules b) is) (λ values pending. may_assert (Rules b) is values)
  stepped_fits (Some (From stream)) is =
      next_keeps Fits (omega arith) (part_of s wire.from) (rooms core s wire.from (From stream)) (outputs core s wire.from (From stream)) (part_of s wire.from).coming wire.from_port
      (output_fits (From stream) is) (λ v later coming. may_assert (From stream) is (Some v ∷ []))
  stepped_fits (Some (To stream)) is = output_fits (To stream) is

  pub up_fits : Fits (on_wire (up core s) w)
  up_fits = subst Fits (sym (up_wire core s w wire found)) (stepped_fits (slice_get core.nodes wire.from) refl)

pub mid_within : (core : Core) → IsWired core → (s : State) → IsWithinDepths core s → IsWithinDepths core (mid core s)
mid_within core wired s within w wire found = mid_fits core wired s within w wire found

pub superstep_within : (core : Core) → IsWired core → (s : State) → IsWithinDepths core s → IsWithinDepths core (superstep core s)
unfolding superstep
superstep_within core wired s within w wire found = up_fits core wired (mid core s) (mid_within core wired s within) w wire found

initial_fits : (depth : ℕ) (initial : Option Value) → 1 ≤ depth → length (option_to_list initial) ≤ depth
initial_fits depth None deep = omega arith
initial_fits depth (Some v) deep = omega (arith, deep)

start_within : (core : Core) → WiresHaveDepth core → (coming : List (List Value)) → IsWithinDepths core (start core coming)
start_within core deep coming w wire found =
    subst (λ values. length values ≤ wire.depth) (sym (mapped_at (λ (x : WireC). option_to_list x.initial) core.wires w wire found))
    (initial_fits wire.depth wire.initial (deep w wire found))

pub lockstep_within : (core : Core) → IsWired core → WiresHaveDepth core → (coming : List (List Value)) (k : ℕ) → IsWithinDepths core (lockstep core (start core coming) k)
unfolding lockstep
lockstep_within core wired deep coming zero = start_within core deep coming
lockstep_within core wired deep coming (suc k) = superstep_within core wired (lockstep core (start core coming) k) (lockstep_within core wired deep coming k)
