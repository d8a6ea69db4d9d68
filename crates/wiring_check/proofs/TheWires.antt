-- Where no rule on wires is broken, each port has its one wire, and the wires agree.
use Rattle.std.proofs.Common.{◌≡◌, inl, inr, ℕ, zero, suc, ◌<◌, ◌≤◌, Bool, true, List, [], ◌∷◌, length, Option, Some, None, slice_get, refl, sym, ap, ◌∙◌, subst, arith}
use Rattle.std.proofs.lemmas.Bool.{cases_eq}
use Rattle.std.proofs.lemmas.Option.{same_Some, slice_get-map, slice_get_within}
use Rattle.std.specs.Option.{option_map, option_flatten, unwrap_or}
use Rattle.hume_base.specs.declared.types.Ty.{Ty}
use Rattle.hume_base.specs.declared.rule.Rule.TheVariants.{C50, C51, C52, C53, C54}
use Rattle.hume_base.specs.Least.{IsLeast}
use Rattle.hume_model.specs.declared.core_tree.NodeC.{NodeC}
use Rattle.hume_model.specs.declared.core_tree.NodeC.TheVariants.{Rules}
use Rattle.hume_model.specs.declared.core_tree.BoxC.{BoxC}
use Rattle.hume_model.specs.declared.core_tree.PortC.{PortC}
use Rattle.hume_model.specs.declared.core_tree.WireC.{WireC}
use Rattle.hume_model.specs.declared.core_tree.Core.{Core}
use Rattle.hume_model.specs.Declarations.{declaration_of}
use Rattle.hume_model.specs.WireEnds.{HasEnds, output_type, input_type, type_of_ends}
use Rattle.hume_model.specs.Wiring.{leads_to, comes_from, inputs_of, outputs_of, IsTheWire, IsWired, WiresAgree}
use Rattle.hume_model.specs.WireRules.{BreaksWires, NoWire, ComesAfter, Differ}
use Rattle.wiring_check.specs.declared.side.Side.{Side}
use Rattle.wiring_check.specs.declared.side.Side.TheVariants.{Inputs, Outputs}
use Rattle.wiring_check.specs.Wires.{Wires, AreTheWires, HasPosition, IsWiringOf, wire_at, wire_in}
use Rattle.wiring_check.specs.inner.Slots.{Rows, slot, slot_in, HasSlot, AreFirst, ends_at, end_node, end_port, ports_of, first_wire, known_row, known_rows}
use Rattle.wiring_check.proofs.FirstWires.{IsFirstWire, first_passes, none_passes}
use Rattle.wiring_check.proofs.SlotSteps.{all_first, ends_here, ends_where}
use Rattle.wiring_check.proofs.SameTypes.{type_known}

-- the first wire is the only one, if no wire comes after another
only_wire : (test : WireC → Bool) (wires : List WireC) (w : ℕ) → IsFirstWire test wires w
    → ((x : ℕ) (wire : WireC) → slice_get wires x ≡ Some wire → test wire ≡ true → ComesAfter test wires x → ⊥) → IsTheWire test wires w
only_wire test wires w is none = record { wire = is.wire; there = is.there; passes = is.passes; alone = alone }
  where
    alone : (x : ℕ) (other : WireC) → slice_get wires x ≡ Some other → test other ≡ true → x ≡ w
    alone x other at passes = elim (cases_eq x w) [
      | inl same ↦ same
      | inr apart ↦ (let low : w ≤ x = is.first x other at passes in
          absurd (none x other at passes (record { x = w; earlier = is.wire; there = is.there; before = omega (arith, apart); passes = is.passes })))
    ]

in_row : (row : List (Option ℕ)) (i : ℕ) → i < length row → (o : Option ℕ) × (slice_get row i ≡ Some o)
in_row [] i within = absurd (omega arith)
in_row (o ∷ row) zero within = (o, refl)
in_row (o ∷ row) (suc i) within = in_row row i (omega arith)

picked : (row : List (Option ℕ)) (i w : ℕ) → slice_get (known_row row) i ≡ Some w → (o : Option ℕ) × (slice_get row i ≡ Some o) × (unwrap_or o 0 ≡ w)
picked [] i w shows = cc
picked (o ∷ row) zero w shows = (o, refl, same_Some (unwrap_or o 0) w shows)
picked (o ∷ row) (suc i) w shows = picked row i w shows

module _ (core : Core) (fine : IsLeast (BreaksWires core) None) where
  no_lack : (side : Side) (n i : ℕ) (node : NodeC) → slice_get core.nodes n ≡ Some node → i < ports_of side node → NoWire (ends_at side n i) core.wires → ⊥
  no_lack Inputs n i node at within none =
      fine (record { rule = C50; declaration = declaration_of node }) (inl (refl, record { n = n; node = node; there = at; declared = refl; input = i; within = within; none = none }))
  no_lack Outputs n i node at within none =
      fine (record { rule = C52; declaration = declaration_of node })
      (inr (inr (inl (refl, record { n = n; node = node; there = at; declared = refl; output = i; within = within; none = none }))))

  no_repeat_here : (side : Side) (w : ℕ) (wire : WireC) → slice_get core.wires w ≡ Some wire → ComesAfter (ends_at side (end_node side wire) (end_port side wire)) core.wires w → ⊥
  no_repeat_here Inputs w wire at after =
      fine (record { rule = C51; declaration = wire.declaration }) (inr (inl (refl, record { w = w; wire = wire; there = at; declared = refl; after = after })))
  no_repeat_here Outputs w wire at after =
      fine (record { rule = C53; declaration = wire.declaration }) (inr (inr (inr (inl (refl, record { w = w; wire = wire; there = at; declared = refl; after = after })))))

  no_repeat : (side : Side) (n i w : ℕ) (wire : WireC) → slice_get core.wires w ≡ Some wire → ends_at side n i wire ≡ true → ComesAfter (ends_at side n i) core.wires w → ⊥
  no_repeat side n i w wire at ends after =
      let where_to = ends_where side n i wire ends in
      no_repeat_here side w wire at
      (subst (λ m. ComesAfter (ends_at side m (end_port side wire)) core.wires w) (sym where_to.0) (subst (λ j. ComesAfter (ends_at side n j) core.wires w) (sym where_to.1) after))

  the_wire : (side : Side) (n i w : ℕ) → first_wire (ends_at side n i) core.wires ≡ Some w → IsTheWire (ends_at side n i) core.wires w
  the_wire side n i w found =
      only_wire (ends_at side n i) core.wires w (first_passes (ends_at side n i) core.wires w found) (λ x wire at passes after. no_repeat side n i x wire at passes after)

  some_first : (side : Side) (n i : ℕ) (node : NodeC) → slice_get core.nodes n ≡ Some node → i < ports_of side node → (o : Option ℕ) → first_wire (ends_at side n i) core.wires ≡ o
      → (w : ℕ) × (first_wire (ends_at side n i) core.wires ≡ Some w)
  some_first side n i node at within None found = absurd (no_lack side n i node at within (none_passes (ends_at side n i) core.wires found))
  some_first side n i node at within (Some w) found = (w, found)

  one_wire : (side : Side) (n i : ℕ) (node : NodeC) → slice_get core.nodes n ≡ Some node → i < ports_of side node → (w : ℕ) × IsTheWire (ends_at side n i) core.wires w
  one_wire side n i node at within = let first = some_first side n i node at within _ refl in (first.0, the_wire side n i first.0 first.1)

  pub are_wired : IsWired core
  are_wired = record { inputs = λ n i node at within. one_wire Inputs n i node at within; outputs = λ n i node at within. one_wire Outputs n i node at within }

  module _ (side : Side) (rows : Rows) (first : AreFirst core side (length core.wires) rows) where
    known_at : (n i : ℕ) → wire_at (known_rows rows) n i ≡ wire_in (option_map known_row (slice_get rows n)) i
    known_at n i = ap (λ r. wire_in r i) (slice_get-map known_row rows n)

    -- the slot, and what is shown for it
    shown : (n i : ℕ) (has : HasSlot rows n i) (o : Option ℕ) → slice_get has.row i ≡ Some o → wire_at (known_rows rows) n i ≡ Some (unwrap_or o 0)
    shown n i has o at =
        known_at n i ∙ ap (λ r. wire_in (option_map known_row r) i) has.there
        ∙ slice_get-map (λ (wire : Option ℕ). unwrap_or wire 0) has.row i ∙ ap (option_map (λ (wire : Option ℕ). unwrap_or wire 0)) at

    has_position : (n i : ℕ) (node : NodeC) → slice_get core.nodes n ≡ Some node → i < ports_of side node → HasPosition (known_rows rows) n i
    has_position n i node at within =
        let has = first.slots n i node at within in
        let o = in_row has.row i has.within in
        record { wire = unwrap_or o.0 0; there = shown n i has o.0 o.1 }

    its_row : (n i w : ℕ) (r : Option (List (Option ℕ))) → slice_get rows n ≡ r → wire_in (option_map known_row r) i ≡ Some w
        → (has : HasSlot rows n i) × (o : Option ℕ) × (slice_get has.row i ≡ Some o) × (unwrap_or o 0 ≡ w)
    its_row n i w None at shows = cc
    its_row n i w (Some row) at shows =
        let k = picked row i w shows in
        (record { row = row; there = at; within = slice_get_within row i k.0 k.1 }, k.0, k.1, k.2)

    is_the_wire : (n i w : ℕ) → wire_at (known_rows rows) n i ≡ Some w → IsTheWire (ends_at side n i) core.wires w
    is_the_wire n i w shows =
        let k = its_row n i w _ refl (sym (known_at n i) ∙ shows) in
        let port = first.ports n i k.0 in
        let found = some_first side n i port.node port.there port.within _ refl in
        let held : slot rows n i ≡ k.1 = ap (λ r. slot_in r i) k.0.there ∙ ap option_flatten k.2 in
        let is : Some found.0 ≡ k.1 = sym found.1 ∙ sym (all_first core side rows first n i) ∙ held in
        let same : found.0 ≡ w = ap (λ o. unwrap_or o 0) is ∙ k.3 in
        subst (λ v. IsTheWire (ends_at side n i) core.wires v) same (the_wire side n i found.0 found.1)

    pub their_wires : AreTheWires core (ports_of side) (ends_at side) (known_rows rows)
    their_wires = record { positions = has_position; each = is_the_wire }

  -- two wires that end at one port are one
  one_at : (side : Side) (w x : ℕ) (wire other : WireC) → HasEnds core wire → slice_get core.wires w ≡ Some wire → slice_get core.wires x ≡ Some other
      → end_node side other ≡ end_node side wire → end_port side other ≡ end_port side wire → other ≡ wire
  one_at side w x wire other ends at_w at_x node port =
      let its = port_there side wire ends in
      let v = one_wire side (end_node side wire) (end_port side wire) its.0 its.1 its.2 in
      let first : w ≡ v.0 = v.1.alone w wire at_w (ends_here side wire) in
      let passes : ends_at side (end_node side wire) (end_port side wire) other ≡ true =
      subst (λ n. ends_at side n (end_port side wire) other ≡ true) node (subst (λ i. ends_at side (end_node side other) i other ≡ true) port (ends_here side other)) in
      let second : x ≡ v.0 = v.1.alone x other at_x passes in
      same_Some other wire (sym at_x ∙ ap (λ k. slice_get core.wires k) (second ∙ sym first) ∙ at_w)
    where
      port_there : (side : Side) (wire : WireC) → HasEnds core wire → (node : NodeC) × (slice_get core.nodes (end_node side wire) ≡ Some node) × (end_port side wire < ports_of side node)
      port_there Inputs wire ends = (ends.consumer, ends.to, ends.to_port)
      port_there Outputs wire ends = (ends.producer, ends.from, ends.from_port)

  second_type : (s : Option Ty) (t : Ty) → (Differ s (Some t) → ⊥) → type_of_ends s (Some t) ≡ t
  second_type None t agree = refl
  second_type (Some s) t agree = elim (type_known s t) [ inl same ↦ same | inr other ↦ absurd (agree other) ]

  module _ (ends : (w : ℕ) (wire : WireC) → slice_get core.wires w ≡ Some wire → HasEnds core wire) where
    ends_agree : (w : ℕ) (wire : WireC) (at : slice_get core.wires w ≡ Some wire)
        → Differ (output_type (ends w wire at).producer wire.from_port) (input_type (ends w wire at).consumer wire.to_port) → ⊥
    ends_agree w wire at differ =
        let has = ends w wire at in
        fine (record { rule = C54; declaration = wire.declaration })
        (inr (inr (inr (inr (refl, record { w = w; wire = wire; there = at; declared = refl; producer = has.producer; from = has.from; consumer = has.consumer; to = has.to; differ = differ })))))

    input_agrees : (w : ℕ) (wire : WireC) (b : BoxC) (input : PortC) → slice_get core.wires w ≡ Some wire → slice_get core.nodes wire.to ≡ Some (Rules b)
        → slice_get b.ins wire.to_port ≡ Some input → wire.ty ≡ input.ty
    input_agrees w wire b input at node port =
        let has = ends w wire at in
        let is : has.consumer ≡ Rules b = same_Some has.consumer (Rules b) (sym has.to ∙ node) in
        let ty : input_type has.consumer wire.to_port ≡ Some input.ty = ap (λ n. input_type n wire.to_port) is ∙ ap (option_map (λ (port : PortC). port.ty)) port in
        has.ty ∙ ap (type_of_ends (output_type has.producer wire.from_port)) ty
        ∙ second_type _ input.ty (λ differ. ends_agree w wire at (subst (λ o. Differ (output_type has.producer wire.from_port) o) (sym ty) differ))

    output_agrees : (w : ℕ) (wire : WireC) (b : BoxC) (output : PortC) → slice_get core.wires w ≡ Some wire → slice_get core.nodes wire.from ≡ Some (Rules b)
        → slice_get b.outs wire.from_port ≡ Some output → wire.ty ≡ output.ty
    output_agrees w wire b output at node port =
        let has = ends w wire at in
        let is : has.producer ≡ Rules b = same_Some has.producer (Rules b) (sym has.from ∙ node) in
        let ty : output_type has.producer wire.from_port ≡ Some output.ty = ap (λ n. output_type n wire.from_port) is ∙ ap (option_map (λ (port : PortC). port.ty)) port in
        has.ty ∙ ap (λ o. type_of_ends o (input_type has.consumer wire.to_port)) ty

    pub wires_agree : WiresAgree core
    wires_agree = record {
      consumers = λ w x wire other at_w at_x node port. ap (λ (v : WireC). v.ty) (one_at Inputs w x wire other (ends w wire at_w) at_w at_x node port);
      producers = λ w x wire other at_w at_x node port. ap (λ (v : WireC). v.ty) (one_at Outputs w x wire other (ends w wire at_w) at_w at_x node port);
      inputs = input_agrees;
      outputs = output_agrees;
    }

-- the wires in the slots are the wiring of the core
pub their_wiring : (core : Core) → IsLeast (BreaksWires core) None → (inputs outputs : Rows) → AreFirst core Inputs (length core.wires) inputs → AreFirst core Outputs (length core.wires) outputs
    → (wiring : Wires) → wiring.inputs ≡ known_rows inputs → wiring.outputs ≡ known_rows outputs → IsWiringOf core wiring
their_wiring core fine inputs outputs ins outs wiring is_in is_out = record {
  inputs = subst (λ rows. AreTheWires core inputs_of leads_to rows) (sym is_in) (their_wires core fine Inputs inputs ins);
  outputs = subst (λ rows. AreTheWires core outputs_of comes_from rows) (sym is_out) (their_wires core fine Outputs outputs outs);
}
