-- The super steps of boxes, input streams and output streams.
use Rattle.std.proofs.Common.{◌≡◌, ◌≤◌, ℕ, zero, suc, ◌+◌, ◌&&◌, Bool, true, false, if◌then◌else◌, List, [], ◌∷◌, map, length, drop, Option, Some, None, slice_get, refl, ap, sym, ◌∙◌, subst, arith}
use Rattle.std.specs.List.{All, list_all}
use Rattle.std.specs.Option.{option_map}
use Rattle.std.proofs.lemmas.Bool.{and_parts}
use Rattle.std.proofs.lemmas.List.{length-map}
use Rattle.std.proofs.lemmas.Option.{slice_get_within, get_or_from_slice_get}
use Rattle.hume_base.specs.declared.limits.TheConstants.{MAX_OUTPUTS}
use Rattle.hume_base.specs.declared.types.Ty.{Ty}
use Rattle.hume_base.specs.declared.types.Value.{Value}
use Rattle.hume_base.specs.Flat.{flat}
use Rattle.hume_base.specs.Sizes.{size_of}
use Rattle.hume_base.specs.Values.{is_value}
use Rattle.hume_model.specs.declared.core_tree.PortC.{PortC}
use Rattle.hume_model.specs.declared.core_tree.BoxC.{BoxC}
use Rattle.hume_model.specs.declared.core_tree.NodeC.TheVariants.{Rules, From, To}
use Rattle.hume_model.specs.declared.core_tree.WireC.{WireC}
use Rattle.hume_model.specs.declared.core_tree.Core.{Core}
use Rattle.hume_model.specs.BoxTyping.{port_types}
use Rattle.hume_model.specs.Limits.{IsSmallNode, IsSmallBox}
use Rattle.hume_model.specs.ResultTyping.{are_outputs}
use Rattle.hume_net.specs.declared.state.Part.{Part}
use Rattle.hume_net.specs.declared.state.State.{State}
use Rattle.hume_net.specs.declared.state.HalfStep.{HalfStep}
use Rattle.hume_net.specs.HalfSteps.{idle, assert_pending, assert_next, asserted, have_room, with_asserted}
use Rattle.hume_net.specs.Lockstep.{at_time, node_at}
use Rattle.hume_net.specs.Sides.{numbered, outputs, rooms, on_found, room_on, wire_from}
use Rattle.hume_net.specs.StateTyping.{IsTypedState}
use Rattle.hume_net.proofs.AtTimes.{types_at}
use Rattle.hume_net.proofs.FoundWires.{from_comes}
use Rattle.hume_net.proofs.WellFormedNets.{typed_net}
use Rattle.box_costs.specs.declared.cost.Cost.{Cost}
use Rattle.box_costs.specs.Costs.{either}
use Rattle.net_costs.proofs.Peaks.{stepped_peak}
use Rattle.box_heap.specs.Heaps.{HeapView}
use Rattle.box_heap.specs.Stacks.{StackView}
use Rattle.code_laws.specs.Ending.{flat_outputs}
use Rattle.hume_streams.specs.Queues.{QueueView}
use Rattle.hume_streams.specs.Logs.{LogView}
use Rattle.wire_cells.specs.Cells.{CellView, cell_has_room, without_values}
use Rattle.match_rules.specs.Inputs.{AreCellsOf}
use Rattle.match_rules.specs.Outputs.{AreWordsOfOutputs, FitCells, asserted_in, have_room_for, value_at}
use Rattle.match_rules.proofs.Asserting.{asserted_kept, same_rooms, outputs_fit, asserted_held}
use Rattle.match_rules.proofs.SideCells.{output_cells, side_cells, side_rooms}
use Rattle.box_step.specs.Views.{CompiledView, pending_words}
use Rattle.box_step.specs.Boxes.{IsBoxAt}
use Rattle.box_step.specs.nodes.Openings.{Opening}
use Rattle.box_step.specs.nodes.Sides.{AreOfSide, type_found, type_there, brought_type, taken_type, ticked}
use Rattle.box_step.specs.nodes.Right.{AreRightWires, IsRightBox, IsRightQueue, IsRightLog, most_taken}
use Rattle.box_step.specs.inner.HalfSteps.{CanAssert, next_row}
use Rattle.box_step.proofs.PendingValues.{no_words, words_of_values}
use Rattle.box_step.proofs.nodes_lemmas.NoOutputs.{none_room, none_fit, none_asserted}
use Rattle.box_step.proofs.nodes_lemmas.SideCells.{cell_at, right_next, none_right}
use Rattle.box_step.proofs.nodes_lemmas.NodeSteps.{whole_outputs, stepped_half, part_stepped, output_left}

all_at : {X : Type 0} (P : X → Type 0) (xs : List X) (i : ℕ) (x : X) → All P xs → slice_get xs i ≡ Some x → P x
all_at P xs i x all found = subst P (get_or_from_slice_get xs i x x found) (all i x (slice_get_within xs i x found))

-- a half step that is made or not
abbrev half_when : Bool → Part → Part → List (List Value) → List (List Value) → HalfStep
half_when roomy before next side wires = if roomy then record { part = next; side = side } else idle before wires

-- whatever wires come from a node, its cells know their room
side_room : (opening : Opening) (time count : ℕ) (n : ℕ) (cells : List CellView) → AreOfSide count (wire_from opening.core n) time cells
    → AreRightWires opening cells
    → numbered count (λ place. room_on opening.core (at_time opening.core opening.state time) (wire_from opening.core n place)) ≡ map cell_has_room cells
side_room opening time count n cells side right =
    let state = at_time opening.core opening.state time in
    ap (λ k. numbered k (λ place. room_on opening.core state (wire_from opening.core n place))) (sym side.long)
    ∙ side_rooms opening.core state (wire_from opening.core n) cells (cell_at opening time count (wire_from opening.core n) cells side right)

-- a box

abbrev pub without_pending : Bool → CompiledView → CompiledView
without_pending gone box = if gone then record box { pending = None } else box

heap_kept : (gone : Bool) (box : CompiledView) → (without_pending gone box).heap ≡ box.heap
heap_kept true box = refl
heap_kept false box = refl

stack_kept : (gone : Bool) (box : CompiledView) → (without_pending gone box).stack ≡ box.stack
stack_kept true box = refl
stack_kept false box = refl

box_forgets : (core : Core) (b : BoxC) (part : Part) (box : CompiledView) → IsBoxAt core b part box
    → IsBoxAt core b (record part { pending = None }) (record box { pending = None })
box_forgets core b part box at = record {
  represents = at.represents;
  room = record { heap_room = at.room.heap_room; stack_room = at.room.stack_room; within = at.room.within };
  order = at.order;
  sizes = at.sizes;
  pending = refl;
  plain = at.plain;
}

box_when : (core : Core) (b : BoxC) (part : Part) (box : CompiledView) (side wires : List (List Value)) (gone : Bool) → IsBoxAt core b part box
    → IsBoxAt core b (half_when gone part (record part { pending = None }) side wires).part (without_pending gone box)
box_when core b part box side wires true at = box_forgets core b part box at
box_when core b part box side wires false at = at

module _ (opening : Opening) (bare : Core) (n time : ℕ) (cells : List CellView) (box : CompiledView) (can : CanAssert opening bare n time cells)
    (right : IsRightBox opening n time box) where
  abbrev b : BoxC
  b = right.b

  abbrev state : State
  state = at_time opening.core opening.state time

  abbrev part : Part
  part = node_at opening.core opening.state n time

  abbrev sides : List (List Value)
  sides = outputs opening.core state n (Rules b)

  abbrev words : ℕ → Option (List ℕ)
  words = pending_words box

  out_side : AreOfSide (length b.outs) (wire_from opening.core n) time cells
  out_side = whole_outputs opening.core bare can.opens.core_is n (Rules b) right.there can.side

  out_cells : AreCellsOf opening.core (port_types b.outs) cells sides
  out_cells =
      output_cells opening.core state n b can.opens.agree right.there cells out_side.long
      (cell_at opening time (length b.outs) (wire_from opening.core n) cells out_side can.wires)

  out_rooms : rooms opening.core state n (Rules b) ≡ map cell_has_room cells
  out_rooms = side_room opening time (length b.outs) n cells out_side can.wires

  typed_state : IsTypedState opening.core state
  typed_state = types_at opening.core (typed_net opening.core can.opens.formed can.opens.agree).0 opening.state can.opens.typed time

  pub few_outputs : length cells ≤ MAX_OUTPUTS
  few_outputs =
      let small : IsSmallBox opening.core.types b =
      all_at (IsSmallNode opening.core.types) opening.core.nodes n (Rules b) can.opens.formed.frame.limits.each_node right.there in
      let few = small.outputs in
      let long = out_side.long in
      omega (arith, few, long)

  pub as_many_sizes : length cells ≡ length box.sizes
  as_many_sizes =
      out_side.long
      ∙ sym (ap length right.at.sizes ∙ length-map (port_types b.outs) (size_of opening.core.types) ∙ length-map b.outs (λ (port : PortC). port.ty))

  -- what the super step leaves, of cells and box, where the words fit
  record Leaves (half : HalfStep) : Type 0 where
    held : AreCellsOf opening.core (port_types b.outs) (asserted_in words cells) half.side
    at : IsBoxAt opening.core b half.part (without_pending (have_room_for words 0 cells) box)
    fit : FitCells words 0 cells

  none_left : part.pending ≡ None → IsBoxAt opening.core b part (record box { pending = None })
  none_left is = record {
    represents = right.at.represents;
    room = record { heap_room = right.at.room.heap_room; stack_room = right.at.room.stack_room; within = right.at.room.within };
    order = right.at.order;
    sizes = right.at.sizes;
    pending = sym (ap (option_map (flat_outputs opening.core.types (port_types b.outs))) is);
    plain = right.at.plain;
  }

  leaves_pending : (pending : Option (List (Option Value))) → part.pending ≡ pending → Leaves (assert_pending part (map cell_has_room cells) sides pending)
  leaves_pending None is =
      let none = no_words right.at is in
      record {
        held = subst (λ cs. AreCellsOf opening.core (port_types b.outs) cs sides) (sym (none_asserted words none cells)) out_cells;
        at = subst (λ gone. IsBoxAt opening.core b part (without_pending gone box)) (sym (none_room words none cells)) (none_left is);
        fit = none_fit words none cells;
      }
  leaves_pending (Some values) is =
      let typed = typed_state.pending n b values right.there is in
      let are : AreWordsOfOutputs opening.core.types (port_types b.outs) values words = words_of_values right.at values is in
      let next : Part = record part { pending = None } in
      let half = asserted part next values (map cell_has_room cells) sides in
      record {
        held = asserted_held opening.core words out_cells values are typed part next;
        at = subst (λ gone. IsBoxAt opening.core b half.part (without_pending gone box)) (sym (same_rooms opening.core words out_cells values are))
            (box_when opening.core b part box (with_asserted values sides) sides (have_room values (map cell_has_room cells)) right.at);
        fit = outputs_fit opening.core words out_cells values are typed;
      }

  leaves : Leaves (assert_pending part (map cell_has_room cells) sides part.pending)
  leaves = leaves_pending part.pending refl

  pub outputs_fit_cells : FitCells words 0 cells
  outputs_fit_cells = leaves.fit

  abbrev half : HalfStep
  half = stepped_half opening.core opening.state n time (Rules b) right.there

  half_left : Leaves half
  half_left = subst (λ rs. Leaves (assert_pending part rs sides part.pending)) (sym out_rooms) leaves

  taken_stays : most_taken opening n time ≡ most_taken opening n (time + 1)
  taken_stays = ap (either (opening.peaks n)) (sym (stepped_peak opening.core opening.state n time can.odd))

  pub box_asserted : (new : CompiledView) → new ≡ without_pending (have_room_for words 0 cells) box → IsRightBox opening n (time + 1) new
  box_asserted new new_is =
      let gone = have_room_for words 0 cells in
      record {
        b = b;
        there = right.there;
        at = subst (λ p. IsBoxAt opening.core b p new) (sym (part_stepped opening.core opening.state n time (Rules b) right.there can.odd))
            (subst (IsBoxAt opening.core b half.part) (sym new_is) half_left.at);
        heap = ap (λ (x : CompiledView). x.heap.peak) new_is ∙ ap (λ (h : HeapView). h.peak) (heap_kept gone box) ∙ right.heap
            ∙ ap (λ (c : Cost). c.heap) taken_stays;
        stack = ap (λ (x : CompiledView). x.stack.peak) new_is ∙ ap (λ (h : StackView). h.peak) (stack_kept gone box) ∙ right.stack
            ∙ ap (λ (c : Cost). c.stack) taken_stays;
      }

  pub box_outputs : (left : List CellView) → left ≡ asserted_in words cells → AreRightWires opening (map ticked left)
  box_outputs left left_is =
      right_next opening time (length b.outs) (wire_from opening.core n) cells out_side can.wires left
      (ap (map without_values) left_is ∙ asserted_kept words cells) (port_types b.outs) half.side
      (subst (λ cs. AreCellsOf opening.core (port_types b.outs) cs half.side) (sym left_is) half_left.held)
      (output_left opening.core opening.state n time (Rules b) right.there can.odd)

-- an input stream

abbrev pub without_first : Bool → QueueView → QueueView
without_first gone queue = if gone then record queue { values = drop 1 queue.values } else queue

rest_kept : (gone : Bool) (queue : QueueView) → record (without_first gone queue) { values = [] } ≡ record queue { values = [] }
rest_kept true queue = refl
rest_kept false queue = refl

values_when : (f : Value → List ℕ) (before : Part) (v : Value) (later : List Value) (queue : QueueView) (side wires : List (List Value)) (gone : Bool)
    → queue.values ≡ map f before.coming → before.coming ≡ v ∷ later
    → (without_first gone queue).values ≡ map f (half_when gone before (record before { coming = later }) side wires).part.coming
values_when f before v later queue side wires true values is = ap (drop 1) (values ∙ ap (map f) is)
values_when f before v later queue side wires false values is = values

none_next : (rows : List (List ℕ)) → rows ≡ [] → (place : ℕ) → next_row rows place ≡ None
none_next rows none zero = ap (λ rs. slice_get rs 0) none
none_next rows none (suc place) = refl

module _ (opening : Opening) (bare : Core) (n time : ℕ) (cells : List CellView) (queue : QueueView) (can : CanAssert opening bare n time cells)
    (right : IsRightQueue opening n time queue) where
  abbrev from_state : State
  from_state = at_time opening.core opening.state time

  abbrev from_part : Part
  from_part = node_at opening.core opening.state n time

  abbrev brought : Ty
  brought = brought_type opening.core n

  abbrev seen : List Value
  seen = on_found from_state (wire_from opening.core n 0)

  abbrev row : ℕ → Option (List ℕ)
  row = next_row queue.values

  from_side : AreOfSide 1 (wire_from opening.core n) time cells
  from_side = whole_outputs opening.core bare can.opens.core_is n (From right.stream) right.there can.side

  pub from_long : length cells ≡ 1
  from_long = from_side.long

  from_type : (place w : ℕ) (wire : WireC) (ty : Ty) → wire_from opening.core n place ≡ Some w → slice_get opening.core.wires w ≡ Some wire
      → slice_get (brought ∷ []) place ≡ Some ty → wire.ty ≡ ty
  from_type zero w wire ty at found is =
      let same : brought ≡ ty = cc in
      sym (ap (type_found opening.core) at ∙ ap type_there found) ∙ same
  from_type (suc place) w wire ty at found is = cc

  from_cells : AreCellsOf opening.core (brought ∷ []) cells (seen ∷ [])
  from_cells =
      side_cells opening.core from_state (wire_from opening.core n) cells
      (cell_at opening time 1 (wire_from opening.core n) cells from_side can.wires) (brought ∷ []) from_side.long from_type

  from_rooms : rooms opening.core from_state n (From right.stream) ≡ map cell_has_room cells
  from_rooms = side_room opening time 1 n cells from_side can.wires

  -- what is to come is of the stream's type
  brought_typed : (cs : List CellView) → cells ≡ cs → list_all (is_value opening.core.types brought) from_part.coming ≡ true
  brought_typed [] is = absurd (let none = ap length is in let one = from_side.long in omega (arith, none, one))
  brought_typed (cell ∷ more) is =
      let there : slice_get cells 0 ≡ Some cell = ap (λ cs. slice_get cs 0) is in
      let at = from_side.each 0 cell there in
      let first = from_comes opening.core n 0 cell.number at in
      let typed = types_at opening.core (typed_net opening.core can.opens.formed can.opens.agree).0 opening.state can.opens.typed time in
      subst (λ t. list_all (is_value opening.core.types t) from_part.coming ≡ true) (from_type 0 cell.number first.0 brought at first.1 refl)
      (typed.coming n right.stream cell.number first.0 right.there first.1 first.2)

  record FromLeaves (half : HalfStep) : Type 0 where
    held : AreCellsOf opening.core (brought ∷ []) (asserted_in row cells) half.side
    rows : (without_first (have_room_for row 0 cells) queue).values ≡ map (flat opening.core.types brought) half.part.coming
    fit : FitCells row 0 cells

  next_words : (v : Value) (later : List Value) → queue.values ≡ flat opening.core.types brought v ∷ map (flat opening.core.types brought) later
      → (place : ℕ) (ty : Ty) → slice_get (brought ∷ []) place ≡ Some ty → row place ≡ option_map (flat opening.core.types ty) (value_at (Some v ∷ []) place)
  next_words v later some zero ty is =
      let same : brought ≡ ty = cc in
      ap (λ rs. slice_get rs 0) some ∙ ap (λ t. option_map (flat opening.core.types t) (Some v)) same
  next_words v later some (suc place) ty is = cc

  leaves_coming : (coming : List Value) → from_part.coming ≡ coming → FromLeaves (assert_next from_part (map cell_has_room cells) (seen ∷ []) coming)
  leaves_coming [] is =
      let empty : queue.values ≡ [] = right.values ∙ ap (map (flat opening.core.types brought)) is in
      let none = none_next queue.values empty in
      record {
        held = subst (λ cs. AreCellsOf opening.core (brought ∷ []) cs (seen ∷ [])) (sym (none_asserted row none cells)) from_cells;
        rows = subst (λ gone. (without_first gone queue).values ≡ map (flat opening.core.types brought) from_part.coming) (sym (none_room row none cells))
            (ap (drop 1) empty ∙ ap (map (flat opening.core.types brought)) (sym is));
        fit = none_fit row none cells;
      }
  leaves_coming (v ∷ later) is =
      let some : queue.values ≡ flat opening.core.types brought v ∷ map (flat opening.core.types brought) later =
      right.values ∙ ap (map (flat opening.core.types brought)) is in
      let all = ap (list_all (is_value opening.core.types brought)) (sym is) ∙ brought_typed cells refl in
      let typed : are_outputs opening.core.types (brought ∷ []) (Some v ∷ []) ≡ true =
      ap (λ t. t && true) (and_parts (is_value opening.core.types brought v) (list_all (is_value opening.core.types brought) later) all).0 in
      let are : AreWordsOfOutputs opening.core.types (brought ∷ []) (Some v ∷ []) row = record { each = next_words v later some } in
      let next : Part = record from_part { coming = later } in
      let half = asserted from_part next (Some v ∷ []) (map cell_has_room cells) (seen ∷ []) in
      record {
        held = asserted_held opening.core row from_cells (Some v ∷ []) are typed from_part next;
        rows = subst (λ gone. (without_first gone queue).values ≡ map (flat opening.core.types brought) half.part.coming)
            (sym (same_rooms opening.core row from_cells (Some v ∷ []) are))
            (values_when (flat opening.core.types brought) from_part v later queue (with_asserted (Some v ∷ []) (seen ∷ [])) (seen ∷ [])
            (have_room (Some v ∷ []) (map cell_has_room cells)) right.values is);
        fit = outputs_fit opening.core row from_cells (Some v ∷ []) are typed;
      }

  from_leaves : FromLeaves (assert_next from_part (map cell_has_room cells) (seen ∷ []) from_part.coming)
  from_leaves = leaves_coming from_part.coming refl

  pub row_fits : FitCells row 0 cells
  row_fits = from_leaves.fit

  abbrev from_half : HalfStep
  from_half = stepped_half opening.core opening.state n time (From right.stream) right.there

  from_left : FromLeaves from_half
  from_left = subst (λ rs. FromLeaves (assert_next from_part rs (seen ∷ []) from_part.coming)) (sym from_rooms) from_leaves

  pub queue_asserted : (new : QueueView) → new ≡ without_first (have_room_for row 0 cells) queue → IsRightQueue opening n (time + 1) new
  queue_asserted new new_is =
      let gone = have_room_for row 0 cells in
      record {
        stream = right.stream;
        there = right.there;
        values = ap (λ (q : QueueView). q.values) new_is ∙ from_left.rows
            ∙ ap (λ (p : Part). map (flat opening.core.types brought) p.coming)
            (sym (part_stepped opening.core opening.state n time (From right.stream) right.there can.odd));
        rest = ap (λ (q : QueueView). record q { values = [] }) new_is ∙ rest_kept gone queue ∙ right.rest;
      }

  pub queue_outputs : (left : List CellView) → left ≡ asserted_in row cells → AreRightWires opening (map ticked left)
  queue_outputs left left_is =
      right_next opening time 1 (wire_from opening.core n) cells from_side can.wires left
      (ap (map without_values) left_is ∙ asserted_kept row cells) (brought ∷ []) from_half.side
      (subst (λ cs. AreCellsOf opening.core (brought ∷ []) cs from_half.side) (sym left_is) from_left.held)
      (output_left opening.core opening.state n time (From right.stream) right.there can.odd)

-- an output stream

module _ (opening : Opening) (bare : Core) (n time : ℕ) (cells : List CellView) (log : LogView) (can : CanAssert opening bare n time cells)
    (right : IsRightLog opening n time log) where
  pub log_stays : IsRightLog opening n (time + 1) log
  log_stays = record {
    stream = right.stream;
    there = right.there;
    values = right.values
        ∙ ap (λ (p : Part). map (flat opening.core.types (taken_type opening.core n)) p.taken)
        (sym (part_stepped opening.core opening.state n time (To right.stream) right.there can.odd));
    width = right.width;
    rest = right.rest;
  }

  pub log_outputs : AreRightWires opening (map ticked cells)
  log_outputs =
      let side = whole_outputs opening.core bare can.opens.core_is n (To right.stream) right.there can.side in
      none_right opening cells side.long
