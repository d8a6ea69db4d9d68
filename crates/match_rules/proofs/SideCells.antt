-- Cells of the wires on a side of a node hold what a state has there, and have room where it has.
use Rattle.std.proofs.Common.{◌≡◌, ℕ, suc, ◌+◌, ◌==◌, Bool, List, [], ◌∷◌, map, length, Option, Some, None, slice_get, refl, ap, sym, ◌∙◌, subst, arith}
use Rattle.std.specs.List.{range_with_len}
use Rattle.std.specs.Option.{option_map}
use Rattle.std.proofs.lemmas.Bool.{and_parts, eqb-true}
use Rattle.std.proofs.lemmas.List.{length-map}
use Rattle.std.proofs.lemmas.Option.{slice_get-map}
use Rattle.hume_base.specs.declared.types.Ty.{Ty}
use Rattle.hume_base.specs.declared.types.Value.{Value}
use Rattle.hume_model.specs.declared.core_tree.PortC.{PortC}
use Rattle.hume_model.specs.declared.core_tree.BoxC.{BoxC}
use Rattle.hume_model.specs.declared.core_tree.NodeC.TheVariants.{Rules}
use Rattle.hume_model.specs.declared.core_tree.WireC.{WireC}
use Rattle.hume_model.specs.declared.core_tree.Core.{Core}
use Rattle.hume_model.specs.BoxTyping.{port_types}
use Rattle.hume_model.specs.Wiring.{WiresAgree, leads_to, comes_from}
use Rattle.hume_net.specs.declared.state.State.{State}
use Rattle.hume_net.specs.Sides.{numbered, on_found, on_wire, room_on, has_room, wire_to, wire_from, inputs, outputs}
use Rattle.hume_net.proofs.FirstFound.{position_at}
use Rattle.wire_cells.specs.Cells.{CellView, cell_has_room}
use Rattle.wire_cells.proofs.Holding.{same_room}
use Rattle.match_rules.specs.Inputs.{IsCellOf, AreCellsOf, IsCellAt}

each_cell : (core : Core) (seen : ℕ → List Value) (tys : List Ty) (cells : List CellView) (from : ℕ) → length cells ≡ length tys
    → ((i : ℕ) (cell : CellView) (ty : Ty) → slice_get cells i ≡ Some cell → slice_get tys i ≡ Some ty → IsCellOf core ty cell (seen (from + i)))
    → AreCellsOf core tys cells (map seen (range_with_len from (length tys)))
each_cell core seen [] [] from long each = AreCellsOf.none
each_cell core seen [] (cell ∷ cells) from long each = absurd (omega (arith, long))
each_cell core seen (ty ∷ tys) [] from long each = absurd (omega (arith, long))
each_cell core seen (ty ∷ tys) (cell ∷ cells) from long each =
    let here : from + 0 ≡ from = omega arith in
    AreCellsOf.more (subst (λ n. IsCellOf core ty cell (seen n)) here (each 0 cell ty refl refl))
    (each_cell core seen tys cells (from + 1) (omega (arith, long))
    (λ i c t c_is t_is. subst (λ n. IsCellOf core t c (seen n)) (let e : from + suc i ≡ from + 1 + i = omega arith in e) (each (suc i) c t c_is t_is)))

each_room : (room : ℕ → Bool) (cells : List CellView) (from : ℕ)
    → ((i : ℕ) (cell : CellView) → slice_get cells i ≡ Some cell → room (from + i) ≡ cell_has_room cell)
    → map room (range_with_len from (length cells)) ≡ map cell_has_room cells
each_room room [] from each = refl
each_room room (cell ∷ cells) from each =
    let here : from ≡ from + 0 = omega arith in
    ap (λ b. b ∷ map room (range_with_len (from + 1) (length cells))) (ap room here ∙ each 0 cell refl)
    ∙ ap (λ bs. cell_has_room cell ∷ bs)
    (each_room room cells (from + 1) (λ i c there. ap room (let e : from + 1 + i ≡ from + suc i = omega arith in e) ∙ each (suc i) c there))

module _ (core : Core) (state : State) (found : ℕ → Option ℕ) (cells : List CellView)
    (each : (place : ℕ) (cell : CellView) → slice_get cells place ≡ Some cell → IsCellAt core state (found place) cell) where
  -- the cell at a place, by the type of its wire
  of_type : (place : ℕ) (cell : CellView) (ty : Ty) → slice_get cells place ≡ Some cell
      → ((number : ℕ) (wire : WireC) → found place ≡ Some number → slice_get core.wires number ≡ Some wire → wire.ty ≡ ty)
      → IsCellOf core ty cell (on_found state (found place))
  of_type place cell ty there type_of =
      let at = each place cell there in
      subst (IsCellOf core ty cell) (sym (ap (on_found state) at.is))
      (record { wire = at.wire; there = at.there; ty = type_of cell.number at.wire at.is at.there; holds = at.holds })

  pub side_cells : (tys : List Ty) → length cells ≡ length tys
      → ((place number : ℕ) (wire : WireC) (ty : Ty) → found place ≡ Some number → slice_get core.wires number ≡ Some wire
      → slice_get tys place ≡ Some ty → wire.ty ≡ ty)
      → AreCellsOf core tys cells (numbered (length tys) (λ place. on_found state (found place)))
  side_cells tys long typed =
      each_cell core (λ place. on_found state (found place)) tys cells 0 long
      (λ i cell ty there t. subst (λ n. IsCellOf core ty cell (on_found state (found n))) (let e : i ≡ 0 + i = omega arith in e)
      (of_type i cell ty there (λ number wire f w. typed i number wire ty f w t)))

  room_at : (place : ℕ) (cell : CellView) → slice_get cells place ≡ Some cell → room_on core state (found place) ≡ cell_has_room cell
  room_at place cell there =
      let at = each place cell there in
      ap (room_on core state) at.is
      ∙ ap (λ w. has_room w (on_wire state cell.number)) at.there
      ∙ sym (same_room core.types at.wire cell (on_wire state cell.number) at.holds)

  pub side_rooms : numbered (length cells) (λ place. room_on core state (found place)) ≡ map cell_has_room cells
  side_rooms =
      each_room (λ place. room_on core state (found place)) cells 0
      (λ i cell there. ap (λ n. room_on core state (found n)) (let e : 0 + i ≡ i = omega arith in e) ∙ room_at i cell there)

-- the port at a place, by its type
port_at : (ports : List PortC) (i : ℕ) (ty : Ty) → slice_get (port_types ports) i ≡ Some ty → (port : PortC) × (slice_get ports i ≡ Some port) × (port.ty ≡ ty)
port_at ports i ty found = by (slice_get ports i) refl
  where
    by : (o : Option PortC) → slice_get ports i ≡ o → (port : PortC) × (slice_get ports i ≡ Some port) × (port.ty ≡ ty)
    by None at = absurd (let both : None ≡ Some ty = ap (option_map (λ (port : PortC). port.ty)) (sym at)
        ∙ sym (slice_get-map (λ (port : PortC). port.ty) ports i) ∙ found in cc)
    by (Some port) at =
        let both : Some port.ty ≡ Some ty = ap (option_map (λ (port : PortC). port.ty)) (sym at)
        ∙ sym (slice_get-map (λ (port : PortC). port.ty) ports i) ∙ found in
        (port, at, cc)

module _ (core : Core) (state : State) (node : ℕ) (b : BoxC) (agree : WiresAgree core) (there : slice_get core.nodes node ≡ Some (Rules b)) where
  input_type : (input number : ℕ) (wire : WireC) (ty : Ty) → wire_to core node input ≡ Some number → slice_get core.wires number ≡ Some wire
      → slice_get (port_types b.ins) input ≡ Some ty → wire.ty ≡ ty
  input_type input number wire ty at found is =
      let port = port_at b.ins input ty is in
      let first = position_at (leads_to node input) core.wires number at in
      let same : first.0 ≡ wire = (let both : Some first.0 ≡ Some wire = sym first.1 ∙ found in cc) in
      let tests = and_parts (wire.to == node) (wire.to_port == input) (ap (leads_to node input) (sym same) ∙ first.2) in
      agree.inputs number wire b port.0 found (ap (slice_get core.nodes) (eqb-true wire.to node tests.0) ∙ there)
      (ap (slice_get b.ins) (eqb-true wire.to_port input tests.1) ∙ port.1) ∙ port.2

  output_type : (output number : ℕ) (wire : WireC) (ty : Ty) → wire_from core node output ≡ Some number → slice_get core.wires number ≡ Some wire
      → slice_get (port_types b.outs) output ≡ Some ty → wire.ty ≡ ty
  output_type output number wire ty at found is =
      let port = port_at b.outs output ty is in
      let first = position_at (comes_from node output) core.wires number at in
      let same : first.0 ≡ wire = (let both : Some first.0 ≡ Some wire = sym first.1 ∙ found in cc) in
      let tests = and_parts (wire.from == node) (wire.from_port == output) (ap (comes_from node output) (sym same) ∙ first.2) in
      agree.outputs number wire b port.0 found (ap (slice_get core.nodes) (eqb-true wire.from node tests.0) ∙ there)
      (ap (slice_get b.outs) (eqb-true wire.from_port output tests.1) ∙ port.1) ∙ port.2

  pub input_cells : (cells : List CellView) → length cells ≡ length b.ins
      → ((input : ℕ) (cell : CellView) → slice_get cells input ≡ Some cell → IsCellAt core state (wire_to core node input) cell)
      → AreCellsOf core (port_types b.ins) cells (inputs core state node (Rules b))
  input_cells cells long each =
      let many = length-map b.ins (λ (port : PortC). port.ty) in
      subst (λ n. AreCellsOf core (port_types b.ins) cells (numbered n (λ input. on_found state (wire_to core node input)))) many
      (side_cells core state (wire_to core node) cells each (port_types b.ins) (long ∙ sym many) input_type)

  pub output_cells : (cells : List CellView) → length cells ≡ length b.outs
      → ((output : ℕ) (cell : CellView) → slice_get cells output ≡ Some cell → IsCellAt core state (wire_from core node output) cell)
      → AreCellsOf core (port_types b.outs) cells (outputs core state node (Rules b))
  output_cells cells long each =
      let many = length-map b.outs (λ (port : PortC). port.ty) in
      subst (λ n. AreCellsOf core (port_types b.outs) cells (numbered n (λ output. on_found state (wire_from core node output)))) many
      (side_cells core state (wire_from core node) cells each (port_types b.outs) (long ∙ sym many) output_type)
