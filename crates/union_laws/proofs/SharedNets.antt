-- The nodes of a program that stands in a larger one make there the supersteps that they make alone.
use Rattle.std.proofs.Common.{◌≡◌, ℕ, zero, suc, ◌+◌, ◌<◌, if◌then◌else◌, List, map, length, Option, Some, None, slice_get, refl, ap, sym, ◌∙◌}
use Rattle.std.specs.Option.{is_some, option_map}
use Rattle.std.proofs.lemmas.List.{length-map}
use Rattle.std.proofs.lemmas.Option.{slice_get_within}
use Rattle.hume_base.specs.declared.types.Value.{Value}
use Rattle.hume_model.specs.declared.core_tree.BoxC.{BoxC}
use Rattle.hume_model.specs.declared.core_tree.FunC.{FunC}
use Rattle.hume_model.specs.declared.core_tree.NodeC.{NodeC}
use Rattle.hume_model.specs.declared.core_tree.NodeC.TheVariants.{Rules, From, To}
use Rattle.hume_model.specs.declared.core_tree.WireC.{WireC}
use Rattle.hume_model.specs.declared.core_tree.Core.{Core}
use Rattle.hume_model.specs.declared.outcome.Firing.{Firing}
use Rattle.hume_model.specs.Calls.{CallsGoDown}
use Rattle.hume_model.specs.Firing.{fire}
use Rattle.hume_net.specs.declared.state.Part.{Part}
use Rattle.hume_net.specs.declared.state.State.{State}
use Rattle.hume_net.specs.declared.state.HalfStep.{HalfStep}
use Rattle.hume_net.specs.HalfSteps.{assert_next, assert_pending, execute, fired, idle, oldest}
use Rattle.hume_net.specs.Sides.{executed, executed_at, has_room, inputs, left_by, numbered, on_found, on_wire, part_of, room_on, stepped, stepped_at, wire_from, wire_to}
use Rattle.hume_net.specs.Lockstep.{lockstep, mid, superstep, up}
use Rattle.hume_net.proofs.FoundWires.{from_comes, to_leads}
use Rattle.hume_net.proofs.Gathered.{mid_part, mid_wire, up_part, up_wire}
use Rattle.union_laws.specs.declared.moves.Moves.{Moves}
use Rattle.union_laws.specs.Moving.{moved_box, moved_function, moved_node, moved_port, moved_wire}
use Rattle.union_laws.proofs.MovedCalls.{moved_means, there_is}
use Rattle.union_laws.proofs.MovedFiring.{BoxCalls, fire_moved}

-- What a program needs so that it runs alone: its functions call down, its boxes call its own functions, and its wires join
-- its own nodes.
pub record RunsAlone (core : Core) : Type 0 where
  pub calls : CallsGoDown core
  pub boxes : (n : ℕ) (b : BoxC) → slice_get core.nodes n ≡ Some (Rules b) → BoxCalls (length core.funs) b
  pub ends : (w : ℕ) (wire : WireC) → slice_get core.wires w ≡ Some wire → (wire.from < length core.nodes) × (wire.to < length core.nodes)

-- The program stands in a larger one, its numbers moved up and its wires from a number on; no other wire touches its nodes.
pub record StandsIn (moves : Moves) (first : ℕ) (small large : Core) : Type 0 where
  pub funs : (n : ℕ) (function : FunC) → slice_get small.funs n ≡ Some function → slice_get large.funs (moves.funs + n) ≡ Some (moved_function moves function)
  pub nodes : (n : ℕ) (node : NodeC) → slice_get small.nodes n ≡ Some node → slice_get large.nodes (moves.nodes + n) ≡ Some (moved_node moves node)
  pub wires : (w : ℕ) (wire : WireC) → slice_get small.wires w ≡ Some wire → slice_get large.wires (first + w) ≡ Some (moved_wire moves wire)
  pub into : (n input : ℕ) → n < length small.nodes → wire_to large (moves.nodes + n) input ≡ option_map (λ w. first + w) (wire_to small n input)
  pub out_of : (n output : ℕ) → n < length small.nodes → wire_from large (moves.nodes + n) output ≡ option_map (λ w. first + w) (wire_from small n output)

-- the small state has the parts of the program's nodes and the values of its wires in the large one
pub record IsShare (moves : Moves) (first : ℕ) (small : Core) (s t : State) : Type 0 where
  pub parts : (n : ℕ) → n < length small.nodes → part_of s (moves.nodes + n) ≡ part_of t n
  pub wires : (w : ℕ) → w < length small.wires → on_wire s (first + w) ≡ on_wire t w

module _ (moves : Moves) (first : ℕ) (small large : Core) (alone : RunsAlone small) (stands : StandsIn moves first small large) where
  module _ (s t : State) (share : IsShare moves first small s t) where
    found_same : (o : Option ℕ) → ((w : ℕ) → o ≡ Some w → w < length small.wires) → on_found s (option_map (λ w. first + w) o) ≡ on_found t o
    found_same None within = refl
    found_same (Some w) within = share.wires w (within w refl)

    to_within : (n input w : ℕ) → wire_to small n input ≡ Some w → w < length small.wires
    to_within n input w at = let found = to_leads small n input w at in slice_get_within small.wires w found.0 found.1

    from_within : (n output w : ℕ) → wire_from small n output ≡ Some w → w < length small.wires
    from_within n output w at = let found = from_comes small n output w at in slice_get_within small.wires w found.0 found.1

    seen : (n : ℕ) → n < length small.nodes → (input : ℕ) → on_found s (wire_to large (moves.nodes + n) input) ≡ on_found t (wire_to small n input)
    seen n within input = ap (on_found s) (stands.into n input within) ∙ found_same (wire_to small n input) (to_within n input)

    written : (n : ℕ) → n < length small.nodes → (output : ℕ) → on_found s (wire_from large (moves.nodes + n) output) ≡ on_found t (wire_from small n output)
    written n within output = ap (on_found s) (stands.out_of n output within) ∙ found_same (wire_from small n output) (from_within n output)

    room_same : (o : Option ℕ) → ((w : ℕ) → o ≡ Some w → w < length small.wires) → room_on large s (option_map (λ w. first + w) o) ≡ room_on small t o
    room_same None within = refl
    room_same (Some w) within =
        let at = there_is small.wires w (within w refl) in
        ap (λ o. has_room o (on_wire s (first + w))) (stands.wires w at.0 at.1)
        ∙ ap (λ vs. has_room (Some (moved_wire moves at.0)) vs) (share.wires w (within w refl))
        ∙ ap (λ o. has_room o (on_wire t w)) (sym at.1)

    roomy : (n : ℕ) → n < length small.nodes → (output : ℕ) → room_on large s (wire_from large (moves.nodes + n) output) ≡ room_on small t (wire_from small n output)
    roomy n within output = ap (room_on large s) (stands.out_of n output within) ∙ room_same (wire_from small n output) (from_within n output)

    -- the sides of a node

    pub ins_same : (n : ℕ) → n < length small.nodes → (a b : ℕ) → a ≡ b
        → numbered a (λ input. on_found s (wire_to large (moves.nodes + n) input)) ≡ numbered b (λ input. on_found t (wire_to small n input))
    ins_same n within a b same = λ i. numbered (same i) (λ input. seen n within input i)

    outs_same : (n : ℕ) → n < length small.nodes → (a b : ℕ) → a ≡ b
        → numbered a (λ output. on_found s (wire_from large (moves.nodes + n) output)) ≡ numbered b (λ output. on_found t (wire_from small n output))
    outs_same n within a b same = λ i. numbered (same i) (λ output. written n within output i)

    rooms_same : (n : ℕ) → n < length small.nodes → (a b : ℕ) → a ≡ b
        → numbered a (λ output. room_on large s (wire_from large (moves.nodes + n) output)) ≡ numbered b (λ output. room_on small t (wire_from small n output))
    rooms_same n within a b same = λ i. numbered (same i) (λ output. roomy n within output i)

    -- half steps

    fired_same : (b : BoxC) (part : Part) (wires : List (List Value)) (o : Option Firing) → fired (moved_box moves b) part wires o ≡ fired b part wires o
    fired_same b part wires None = refl
    fired_same b part wires (Some firing) = refl

    box_fires : (b : BoxC) → BoxCalls (length small.funs) b → (part : Part) (wires : List (List Value))
        → execute large (Rules (moved_box moves b)) part wires ≡ execute small (Rules b) part wires
    box_fires b known part wires =
        ap (λ half. if is_some part.pending then idle part wires else half)
        (ap (fired (moved_box moves b) part wires)
        (fire_moved moves (length small.funs) small large (moved_means moves small large alone.calls stands.funs) b known (map oldest wires) part.order)
        ∙ fired_same b part wires (fire small b part.order (map oldest wires)))

    executed_node : (n : ℕ) → n < length small.nodes → (node : NodeC) → slice_get small.nodes n ≡ Some node
        → executed_at large s (moves.nodes + n) (Some (moved_node moves node)) ≡ executed_at small t n (Some node)
    executed_node n within (Rules b) at =
        (λ i. execute large (Rules (moved_box moves b)) (share.parts n within i)
        (ins_same n within (length (map (moved_port moves) b.ins)) (length b.ins) (length-map b.ins (moved_port moves)) i))
        ∙ box_fires b (alone.boxes n b at) (part_of t n) (inputs small t n (Rules b))
    executed_node n within (From stream) at = λ i. idle (share.parts n within i) (ins_same n within 0 0 refl i)
    executed_node n within (To stream) at = λ i. execute small (To stream) (share.parts n within i) (ins_same n within 1 1 refl i)

    executed_same : (n : ℕ) → n < length small.nodes → executed large s (moves.nodes + n) ≡ executed small t n
    executed_same n within =
        let at = there_is small.nodes n within in
        ap (executed_at large s (moves.nodes + n)) (stands.nodes n at.0 at.1) ∙ executed_node n within at.0 at.1 ∙ ap (executed_at small t n) (sym at.1)

    stepped_node : (n : ℕ) → n < length small.nodes → (node : NodeC)
        → stepped_at large s (moves.nodes + n) (Some (moved_node moves node)) ≡ stepped_at small t n (Some node)
    stepped_node n within (Rules b) =
        let many = length-map b.outs (moved_port moves) in
        λ i. assert_pending (share.parts n within i) (rooms_same n within (length (map (moved_port moves) b.outs)) (length b.outs) many i)
        (outs_same n within (length (map (moved_port moves) b.outs)) (length b.outs) many i) (share.parts n within i).pending
    stepped_node n within (From stream) = λ i. assert_next (share.parts n within i) (rooms_same n within 1 1 refl i) (outs_same n within 1 1 refl i) (share.parts n within i).coming
    stepped_node n within (To stream) = λ i. idle (share.parts n within i) (outs_same n within 0 0 refl i)

    stepped_same : (n : ℕ) → n < length small.nodes → stepped large s (moves.nodes + n) ≡ stepped small t n
    stepped_same n within =
        let at = there_is small.nodes n within in
        ap (stepped_at large s (moves.nodes + n)) (stands.nodes n at.0 at.1) ∙ stepped_node n within at.0 ∙ ap (stepped_at small t n) (sym at.1)

    -- phases

    pub mid_share : IsShare moves first small (mid large s) (mid small t)
    mid_share = record {
      parts = λ n within.
          let at = there_is small.nodes n within in
          mid_part large s (moves.nodes + n) (moved_node moves at.0) (stands.nodes n at.0 at.1)
          ∙ ap (λ (half : HalfStep). half.part) (executed_same n within)
          ∙ sym (mid_part small t n at.0 at.1);
      wires = λ w within.
          let at = there_is small.wires w within in
          mid_wire large s (first + w) (moved_wire moves at.0) (stands.wires w at.0 at.1)
          ∙ ap (λ half. left_by half at.0.to_port) (executed_same at.0.to (alone.ends w at.0 at.1).1)
          ∙ sym (mid_wire small t w at.0 at.1);
    }

    pub up_share : IsShare moves first small (up large s) (up small t)
    up_share = record {
      parts = λ n within.
          let at = there_is small.nodes n within in
          up_part large s (moves.nodes + n) (moved_node moves at.0) (stands.nodes n at.0 at.1)
          ∙ ap (λ (half : HalfStep). half.part) (stepped_same n within)
          ∙ sym (up_part small t n at.0 at.1);
      wires = λ w within.
          let at = there_is small.wires w within in
          up_wire large s (first + w) (moved_wire moves at.0) (stands.wires w at.0 at.1)
          ∙ ap (λ half. left_by half at.0.from_port) (stepped_same at.0.from (alone.ends w at.0 at.1).0)
          ∙ sym (up_wire small t w at.0 at.1);
    }

  superstep_share : (s t : State) → IsShare moves first small s t → IsShare moves first small (superstep large s) (superstep small t)
  unfolding superstep
  superstep_share s t share = up_share (mid large s) (mid small t) (mid_share s t share)

  -- a share goes on as the program does alone
  pub lockstep_share : (s t : State) → IsShare moves first small s t → (k : ℕ) → IsShare moves first small (lockstep large s k) (lockstep small t k)
  unfolding lockstep
  lockstep_share s t share zero = share
  lockstep_share s t share (suc k) = superstep_share (lockstep large s k) (lockstep small t k) (lockstep_share s t share k)
