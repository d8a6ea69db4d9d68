-- A superstep keeps the types of the values on wires, of those that are yet to be asserted, and of those that are taken.
use Rattle.std.proofs.Common.{◌≡◌, ℕ, zero, suc, ◌<◌, Bool, true, false, if◌then◌else◌, List, [], ◌∷◌, ◌++◌, map, length, Option, Some, None, slice_get, refl, ap, sym, ◌∙◌, subst}
use Rattle.std.proofs.lemmas.Bool.{and_parts, eqb-true}
use Rattle.std.specs.List.{list_all}
use Rattle.std.specs.Option.{option_to_list}
use Rattle.hume_base.specs.declared.types.Ty.{Ty}
use Rattle.hume_base.specs.declared.types.Value.{Value}
use Rattle.hume_base.specs.Values.{is_value}
use Rattle.hume_model.specs.declared.core_tree.BoxC.{BoxC}
use Rattle.hume_model.specs.declared.core_tree.StreamC.{StreamC}
use Rattle.hume_model.specs.declared.core_tree.NodeC.{NodeC}
use Rattle.hume_model.specs.declared.core_tree.NodeC.TheVariants.{Rules, From, To}
use Rattle.hume_model.specs.declared.core_tree.WireC.{WireC}
use Rattle.hume_model.specs.declared.core_tree.Core.{Core}
use Rattle.hume_model.specs.Wiring.{leads_to, comes_from, inputs_of, outputs_of}
use Rattle.hume_model.specs.ResultTyping.{are_outputs}
use Rattle.hume_model.specs.BoxTyping.{port_types}
use Rattle.hume_model.proofs.FiringTypes.{fire_typed}
use Rattle.hume_net.specs.declared.state.State.{State}
use Rattle.hume_net.specs.declared.state.Part.{Part}
use Rattle.hume_net.specs.declared.state.HalfStep.{HalfStep}
use Rattle.hume_net.specs.HalfSteps.{oldest, with_asserted, idle, assert_next, have_room}
use Rattle.hume_net.specs.Sides.{on_wire, part_of, on_found, wire_to, wire_from, inputs, outputs, rooms, executed_at, stepped_at}
use Rattle.hume_net.specs.Lockstep.{mid, up, superstep}
use Rattle.hume_net.specs.StateTyping.{IsTypedNet, IsTypedState}
use Rattle.hume_net.proofs.Starts.{length-numbered}
use Rattle.hume_net.proofs.FirstFound.{position_at}
use Rattle.hume_net.proofs.Gathered.{mid_part, up_part, mid_wire, up_wire}
use Rattle.hume_net.proofs.Pending.{FiringsAre, mid_pending, up_pending}
use Rattle.hume_net.proofs.SideSteps.{on_side, value_at, numbered_keeps, execute_keeps, pending_keeps, next_keeps, MayAssert}
use Rattle.hume_net.proofs.SideTypes.{AllAre, appended, one_is, later_are, oldest_are, seen_is, outputs_at, outputs_from, input_at, type_at, some_output}

module _ (core : Core) (net : IsTypedNet core) (s : State) (typed : IsTypedState core s) where
  -- each wire that leads to an input of a node, or comes from an output, is of the type
  abbrev LeadAs : ℕ → ℕ → Ty → Type 0
  LeadAs n i t = (w : ℕ) (wire : WireC) → slice_get core.wires w ≡ Some wire → wire.to ≡ n → wire.to_port ≡ i → wire.ty ≡ t

  abbrev ComeAs : ℕ → ℕ → Ty → Type 0
  ComeAs n i t = (w : ℕ) (wire : WireC) → slice_get core.wires w ≡ Some wire → wire.from ≡ n → wire.from_port ≡ i → wire.ty ≡ t

  found_to : (n i : ℕ) (t : Ty) → LeadAs n i t → (at : Option ℕ) → wire_to core n i ≡ at → AllAre core.types t (on_found s at)
  found_to n i t lead None here = refl
  found_to n i t lead (Some w) here =
      let found = position_at (leads_to n i) core.wires w here in
      let ends = and_parts _ _ found.2 in
      subst (λ u. AllAre core.types u (on_wire s w)) (lead w found.0 found.1 (eqb-true _ _ ends.0) (eqb-true _ _ ends.1)) (typed.wires w found.0 found.1)

  found_from : (n i : ℕ) (t : Ty) → ComeAs n i t → (at : Option ℕ) → wire_from core n i ≡ at → AllAre core.types t (on_found s at)
  found_from n i t come None here = refl
  found_from n i t come (Some w) here =
      let found = position_at (comes_from n i) core.wires w here in
      let ends = and_parts _ _ found.2 in
      subst (λ u. AllAre core.types u (on_wire s w)) (come w found.0 found.1 (eqb-true _ _ ends.0) (eqb-true _ _ ends.1)) (typed.wires w found.0 found.1)

  input_are : (n : ℕ) (node : NodeC) (i : ℕ) (t : Ty) → LeadAs n i t → AllAre core.types t (on_side (inputs core s n node) i)
  input_are n node i t lead =
      numbered_keeps (AllAre core.types t) refl (inputs_of node) (λ input. on_found s (wire_to core n input)) i (found_to n i t lead (wire_to core n i) refl)

  output_are : (n : ℕ) (node : NodeC) (i : ℕ) (t : Ty) → ComeAs n i t → AllAre core.types t (on_side (outputs core s n node) i)
  output_are n node i t come =
      numbered_keeps (AllAre core.types t) refl (outputs_of node) (λ output. on_found s (wire_from core n output)) i (found_from n i t come (wire_from core n i) refl)

  -- what a box sees at its inputs is of their types
  pub inputs_typed : (n : ℕ) (b : BoxC) → slice_get core.nodes n ≡ Some (Rules b)
      → are_outputs core.types (port_types b.ins) (map oldest (inputs core s n (Rules b))) ≡ true
  inputs_typed n b is_box = outputs_from core.types (port_types b.ins) (map oldest (inputs core s n (Rules b))) (λ i t v found here.
      let input = input_at b.ins i t found in
      let lead : LeadAs n i t = λ w wire there to place.
      net.wires.inputs w wire b input.0 there (subst (λ k. slice_get core.nodes k ≡ Some (Rules b)) (sym to) is_box) (subst (λ k. slice_get b.ins k ≡ Some input.0) (sym place) input.1)
      ∙ input.2 in
      seen_is core.types t (inputs core s n (Rules b)) i v (input_are n (Rules b) i t lead) here)

  -- the execute step

  executed_side : (n : ℕ) (o : Option NodeC) (i : ℕ) (t : Ty) → LeadAs n i t → AllAre core.types t (on_side (executed_at core s n o).side i)
  executed_side n None i t lead = refl
  executed_side n (Some node) i t lead =
      execute_keeps (AllAre core.types t) refl (later_are core.types t) core node (part_of s n) (inputs core s n node) i (input_are n node i t lead)

  mid_wires : (w : ℕ) (wire : WireC) → slice_get core.wires w ≡ Some wire → AllAre core.types wire.ty (on_wire (mid core s) w)
  mid_wires w wire found =
      subst (AllAre core.types wire.ty) (sym (mid_wire core s w wire found))
      (executed_side wire.to (slice_get core.nodes wire.to) wire.to_port wire.ty
      (λ x other there to place. net.wires.consumers w x wire other found there to place))

  abbrev OutputsAre : BoxC → List (Option Value) → Type 0
  OutputsAre b outs = are_outputs core.types (port_types b.outs) outs ≡ true

  firings_typed : FiringsAre core s OutputsAre
  firings_typed n b is_box firing fires = fire_typed core net.sound b (net.boxes n b is_box) (map oldest (inputs core s n (Rules b))) (inputs_typed n b is_box) (part_of s n).order firing fires

  mid_coming : (n : ℕ) (stream : StreamC) → slice_get core.nodes n ≡ Some (From stream) → (part_of (mid core s) n).coming ≡ (part_of s n).coming
  mid_coming n stream is = ap (λ (p : Part). p.coming) (mid_part core s n (From stream) is) ∙ ap (λ o. (executed_at core s n o).part.coming) is

  mid_taken : (n : ℕ) (stream : StreamC) → slice_get core.nodes n ≡ Some (To stream)
      → (part_of (mid core s) n).taken ≡ (part_of s n).taken ++ (option_to_list (oldest (on_found s (wire_to core n 0))) ++ [])
  mid_taken n stream is = ap (λ (p : Part). p.taken) (mid_part core s n (To stream) is) ∙ ap (λ o. (executed_at core s n o).part.taken) is

  pub mid_typed : IsTypedState core (mid core s)
  mid_typed = record {
    wires = mid_wires;
    pending = mid_pending core s OutputsAre typed.pending firings_typed;
    coming = λ n stream w wire is found from.
        subst (AllAre core.types wire.ty) (sym (mid_coming n stream is)) (typed.coming n stream w wire is found from);
    taken = λ n stream w wire is found to place.
        let lead : LeadAs n 0 wire.ty = λ x other there ends at. net.wires.consumers w x wire other found there (ends ∙ sym to) (at ∙ sym place) in
        let new = oldest_are core.types wire.ty (on_found s (wire_to core n 0)) (found_to n 0 wire.ty lead (wire_to core n 0) refl) in
        subst (AllAre core.types wire.ty) (sym (mid_taken n stream is))
        (appended core.types wire.ty (part_of s n).taken _ (typed.taken n stream w wire is found to place) (appended core.types wire.ty (option_to_list (oldest (on_found s (wire_to core n 0)))) [] new refl));
  }

  -- the super step

  module _ (w : ℕ) (wire : WireC) (found : slice_get core.wires w ≡ Some wire) where
    abbrev AreOfWire : List Value → Type 0
    AreOfWire = AllAre core.types wire.ty

    before : (node : NodeC) → AreOfWire (on_side (outputs core s wire.from node) wire.from_port)
    before node = output_are wire.from node wire.from_port wire.ty (λ x other there from place. net.wires.producers w x wire other found there from place)

    box_may : (b : BoxC) → slice_get core.nodes wire.from ≡ Some (Rules b) → (values : List (Option Value)) → (part_of s wire.from).pending ≡ Some values
        → MayAssert AreOfWire refl values (rooms core s wire.from (Rules b)) (outputs core s wire.from (Rules b)) wire.from_port
    box_may b is_box values pending v less here free =
        let within = subst (λ k. wire.from_port < k) (length-numbered (length b.outs) (λ output. on_found s (wire_from core wire.from output))) less in
        let output = some_output b.outs wire.from_port within in
        let same = net.wires.outputs w wire b output.0 found is_box output.1 in
        let is = outputs_at core.types (port_types b.outs) values wire.from_port output.0.ty v (typed.pending wire.from b values is_box pending) (type_at b.outs wire.from_port output.0 output.1) here in
        appended core.types wire.ty (on_side (outputs core s wire.from (Rules b)) wire.from_port) (v ∷ []) (before (Rules b))
        (one_is core.types wire.ty v (subst (λ t. is_value core.types t v ≡ true) (sym same) is))

    the_one : (x v : Value) (i : ℕ) → value_at (Some x ∷ []) i ≡ Some v → is_value core.types wire.ty x ≡ true → is_value core.types wire.ty v ≡ true
    the_one x v zero here is = let same : x ≡ v = cc in subst (λ y. is_value core.types wire.ty y ≡ true) same is
    the_one x v (suc i) here is = cc

    stream_may : (stream : StreamC) → slice_get core.nodes wire.from ≡ Some (From stream) → (x : Value) (later : List Value) → (part_of s wire.from).coming ≡ x ∷ later
        → MayAssert AreOfWire refl (Some x ∷ []) (rooms core s wire.from (From stream)) (outputs core s wire.from (From stream)) wire.from_port
    stream_may stream is x later coming v less here free =
        let all = subst AreOfWire coming (typed.coming wire.from stream w wire is found refl) in
        appended core.types wire.ty (on_side (outputs core s wire.from (From stream)) wire.from_port) (v ∷ []) (before (From stream))
        (one_is core.types wire.ty v (the_one x v wire.from_port here (and_parts _ _ all).0))

    stepped_side : (o : Option NodeC) → slice_get core.nodes wire.from ≡ o → AreOfWire (on_side (stepped_at core s wire.from o).side wire.from_port)
    stepped_side None is = refl
    stepped_side (Some (Rules b)) is =
        pending_keeps AreOfWire refl (part_of s wire.from) (rooms core s wire.from (Rules b)) (outputs core s wire.from (Rules b)) (part_of s wire.from).pending wire.from_port (before (Rules b)) (box_may b is)
    stepped_side (Some (From stream)) is =
        next_keeps AreOfWire refl (part_of s wire.from) (rooms core s wire.from (From stream)) (outputs core s wire.from (From stream)) (part_of s wire.from).coming wire.from_port (before (From stream)) (stream_may stream is)
    stepped_side (Some (To stream)) is = before (To stream)

    up_wires : AreOfWire (on_wire (up core s) w)
    up_wires = subst AreOfWire (sym (up_wire core s w wire found)) (stepped_side (slice_get core.nodes wire.from) refl)

  module _ (t : Ty) where
    coming_when : (room : Bool) (before next : Part) (values : List (Option Value)) (wires : List (List Value)) → AllAre core.types t before.coming → AllAre core.types t next.coming
        → AllAre core.types t (if room then (let half : HalfStep = record { part = next; side = with_asserted values wires } in half) else idle before wires).part.coming
    coming_when true before next values wires all rest = rest
    coming_when false before next values wires all rest = all

    next_coming : (part : Part) (rooms : List Bool) (wires : List (List Value)) (coming : List Value) → part.coming ≡ coming → AllAre core.types t coming
        → AllAre core.types t (assert_next part rooms wires coming).part.coming
    next_coming part rooms wires [] is all = ap (list_all (is_value core.types t)) is ∙ all
    next_coming part rooms wires (x ∷ later) is all =
        coming_when (have_room (Some x ∷ []) rooms) part (record part { coming = later }) (Some x ∷ []) wires (ap (list_all (is_value core.types t)) is ∙ all) (and_parts _ _ all).1

  up_coming : (n : ℕ) (stream : StreamC) (t : Ty) → slice_get core.nodes n ≡ Some (From stream) → AllAre core.types t (part_of s n).coming → AllAre core.types t (part_of (up core s) n).coming
  up_coming n stream t is all =
      let e = ap (λ (p : Part). p.coming) (up_part core s n (From stream) is) ∙ ap (λ o. (stepped_at core s n o).part.coming) is in
      subst (AllAre core.types t) (sym e) (next_coming t (part_of s n) (rooms core s n (From stream)) (outputs core s n (From stream)) (part_of s n).coming refl all)

  up_taken : (n : ℕ) (stream : StreamC) → slice_get core.nodes n ≡ Some (To stream) → (part_of (up core s) n).taken ≡ (part_of s n).taken
  up_taken n stream is = ap (λ (p : Part). p.taken) (up_part core s n (To stream) is) ∙ ap (λ o. (stepped_at core s n o).part.taken) is

  pub up_typed : IsTypedState core (up core s)
  up_typed = record {
    wires = up_wires;
    pending = up_pending core s OutputsAre typed.pending;
    coming = λ n stream w wire is found from. up_coming n stream wire.ty is (typed.coming n stream w wire is found from);
    taken = λ n stream w wire is found to place.
        subst (AllAre core.types wire.ty) (sym (up_taken n stream is)) (typed.taken n stream w wire is found to place);
  }

pub superstep_typed : (core : Core) → IsTypedNet core → (s : State) → IsTypedState core s → IsTypedState core (superstep core s)
unfolding superstep
superstep_typed core net s typed = up_typed core net (mid core s) (mid_typed core net s typed)
