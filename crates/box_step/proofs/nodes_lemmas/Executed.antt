-- The execute steps of boxes, input streams and output streams.
use Rattle.std.proofs.Common.{◌≡◌, ℕ, zero, suc, ◌+◌, max, List, [], ◌∷◌, ◌++◌, map, length, take, drop, Option, Some, slice_get, refl, ap, sym, ◌∙◌, subst, append-nil, arith}
use Rattle.std.proofs.lemmas.List.{map-append}
use Rattle.hume_base.specs.declared.types.Ty.{Ty}
use Rattle.hume_base.specs.declared.types.Value.{Value}
use Rattle.hume_base.specs.Flat.{flat}
use Rattle.hume_model.specs.declared.core_tree.BoxC.{BoxC}
use Rattle.hume_model.specs.declared.core_tree.NodeC.TheVariants.{Rules, From, To}
use Rattle.hume_model.specs.declared.core_tree.WireC.{WireC}
use Rattle.hume_model.specs.declared.core_tree.Core.{Core}
use Rattle.hume_model.specs.BoxTyping.{port_types}
use Rattle.hume_net.specs.declared.state.Part.{Part}
use Rattle.hume_net.specs.declared.state.HalfStep.{HalfStep}
use Rattle.hume_net.specs.HalfSteps.{oldest, without_oldest, values_there}
use Rattle.hume_net.specs.Lockstep.{at_time, node_at, executes}
use Rattle.hume_net.specs.Sides.{inputs, on_found, wire_to}
use Rattle.box_costs.specs.declared.cost.Cost.{Cost}
use Rattle.box_costs.specs.Costs.{either}
use Rattle.net_costs.specs.Steps.{step_spent, node_step_spent, peaks}
use Rattle.net_costs.proofs.Peaks.{executed_peak}
use Rattle.box_machine.specs.declared.ran.Ran.{Ran}
use Rattle.hume_streams.specs.Queues.{QueueView}
use Rattle.hume_streams.specs.Logs.{LogView}
use Rattle.wire_cells.specs.Cells.{CellView, Holds, without_values}
use Rattle.wire_cells.proofs.Holding.{less_held, held_long}
use Rattle.match_rules.specs.Inputs.{IsCellOf, AreCellsOf}
use Rattle.match_rules.proofs.SideCells.{input_cells, side_cells}
use Rattle.match_rules.proofs.TypedCells.{words_held, whole_words}
use Rattle.box_step.specs.Views.{CompiledView}
use Rattle.box_step.specs.Boxes.{AreBareForms, HasExecuted, IsAt, IsBoxAt}
use Rattle.box_step.specs.Steps.{execute_spent}
use Rattle.box_step.specs.nodes.Openings.{Opening}
use Rattle.box_step.specs.nodes.Sides.{AreOfSide, type_found, type_there, brought_type, taken_type, ticked}
use Rattle.box_step.specs.nodes.Right.{AreRightWires, IsRightBox, IsRightQueue, IsRightLog, most_taken}
use Rattle.box_step.specs.inner.HalfSteps.{CanExecute}
use Rattle.box_step.proofs.AcceptedBoxes.{forms_there}
use Rattle.box_step.proofs.nodes_lemmas.SideCells.{cell_at, right_next, none_right}
use Rattle.box_step.proofs.nodes_lemmas.NodeSteps.{whole_inputs, executed_half, part_executed, input_left}

-- a box

module _ (opening : Opening) (bare : Core) (n time : ℕ) (cells : List CellView) (box : CompiledView) (can : CanExecute opening bare n time cells)
    (right : IsRightBox opening n time box) where
  abbrev pub its_box : BoxC
  its_box = right.b

  abbrev pub before_box : HalfStep
  before_box = record {
    part = node_at opening.core opening.state n time;
    side = inputs opening.core (at_time opening.core opening.state time) n (Rules its_box);
  }

  pub box_forms : (its : BoxC) → slice_get bare.nodes n ≡ Some (Rules its) → AreBareForms opening.core its_box bare its
  box_forms its found =
      forms_there opening.core can.opens.formed n its_box right.there (can.opens.handles n its_box right.there) bare can.opens.core_is its found

  box_side : AreOfSide (length its_box.ins) (wire_to opening.core n) time cells
  box_side = whole_inputs opening.core bare can.opens.core_is n (Rules its_box) right.there can.side

  box_cells : AreCellsOf opening.core (port_types its_box.ins) cells before_box.side
  box_cells =
      input_cells opening.core (at_time opening.core opening.state time) n its_box can.opens.agree right.there cells box_side.long
      (cell_at opening time (length its_box.ins) (wire_to opening.core n) cells box_side can.wires)

  pub box_is_at : IsAt opening.core its_box before_box box cells
  box_is_at = record { box_at = right.at; inputs = box_cells }

  abbrev spent : Cost
  spent = execute_spent opening.core its_box before_box.part before_box.side

  spent_is : step_spent opening.core (at_time opening.core opening.state time) n ≡ spent
  spent_is = ap (node_step_spent opening.core (at_time opening.core opening.state time) n) right.there

  taken_next : most_taken opening n (time + 1) ≡ either (opening.peaks n) (either (peaks opening.core opening.state (executes time) n) spent)
  taken_next =
      ap (either (opening.peaks n)) (executed_peak opening.core opening.state n time can.even)
      ∙ ap (λ c. either (opening.peaks n) (either (peaks opening.core opening.state (executes time) n) c)) spent_is

  module _ (new : CompiledView) (left : List CellView) (answer : Option Ran) (has : HasExecuted opening.core its_box before_box box new left answer) where
    heap_next : new.heap.peak ≡ (most_taken opening n (time + 1)).heap
    heap_next =
        let before = (opening.peaks n).heap in
        let since = (peaks opening.core opening.state (executes time) n).heap in
        let was : box.heap.peak ≡ max before since = right.heap in
        let is : new.heap.peak ≡ max box.heap.peak spent.heap = has.spent.heap in
        let next : (most_taken opening n (time + 1)).heap ≡ max before (max since spent.heap) = ap (λ (c : Cost). c.heap) taken_next in
        is ∙ ap (λ h. max h spent.heap) was ∙ max_in_turn before since spent.heap ∙ sym next
      where
        max_in_turn : (a b c : ℕ) → max (max a b) c ≡ max a (max b c)
        max_in_turn a b c = omega arith

    stack_next : new.stack.peak ≡ (most_taken opening n (time + 1)).stack
    stack_next =
        let before = (opening.peaks n).stack in
        let since = (peaks opening.core opening.state (executes time) n).stack in
        let was : box.stack.peak ≡ max before since = right.stack in
        let is : new.stack.peak ≡ max box.stack.peak spent.stack = has.spent.stack in
        let next : (most_taken opening n (time + 1)).stack ≡ max before (max since spent.stack) = ap (λ (c : Cost). c.stack) taken_next in
        is ∙ ap (λ h. max h spent.stack) was ∙ max_in_turn before since spent.stack ∙ sym next
      where
        max_in_turn : (a b c : ℕ) → max (max a b) c ≡ max a (max b c)
        max_in_turn a b c = omega arith

    pub box_next : IsRightBox opening n (time + 1) new
    box_next = record {
      b = its_box;
      there = right.there;
      at = subst (λ (part : Part). IsBoxAt opening.core its_box part new)
          (sym (part_executed opening.core opening.state n time (Rules its_box) right.there can.even)) has.at.box_at;
      heap = heap_next;
      stack = stack_next;
    }

    pub box_wires : map without_values left ≡ map without_values cells → AreRightWires opening (map ticked left)
    box_wires rest =
        right_next opening time (length its_box.ins) (wire_to opening.core n) cells box_side can.wires left rest (port_types its_box.ins)
        (executed_half opening.core opening.state n time (Rules its_box) right.there).side has.at.inputs
        (input_left opening.core opening.state n time (Rules its_box) right.there can.even)

-- an input stream

module _ (opening : Opening) (bare : Core) (n time : ℕ) (cells : List CellView) (queue : QueueView) (can : CanExecute opening bare n time cells)
    (right : IsRightQueue opening n time queue) where
  pub queue_next : IsRightQueue opening n (time + 1) queue
  queue_next = record {
    stream = right.stream;
    there = right.there;
    values = right.values
        ∙ ap (λ (part : Part). map (flat opening.core.types (brought_type opening.core n)) part.coming)
        (sym (part_executed opening.core opening.state n time (From right.stream) right.there can.even));
    rest = right.rest;
  }

  pub queue_wires : AreRightWires opening (map ticked cells)
  queue_wires =
      let side = whole_inputs opening.core bare can.opens.core_is n (From right.stream) right.there can.side in
      none_right opening cells side.long

-- an output stream

less_one : (core : Core) (ty : Ty) (cell : CellView) (held : List Value) → IsCellOf core ty cell held
    → IsCellOf core ty (record cell { values = drop 1 cell.values }) (without_oldest held)
less_one core ty cell [] is = record {
  wire = is.wire;
  there = is.there;
  ty = is.ty;
  holds = record { words = ap (drop 1) is.holds.words; typed = refl; whole = is.holds.whole; depth = is.holds.depth };
}
less_one core ty cell (v ∷ later) is = record { wire = is.wire; there = is.there; ty = is.ty; holds = less_held core.types is.wire cell v later is.holds }

less_cells : (core : Core) {tys : List Ty} {cells : List CellView} {values : List (List Value)} → AreCellsOf core tys cells values
    → AreCellsOf core tys (map (λ (cell : CellView). record cell { values = drop 1 cell.values }) cells) (map without_oldest values)
less_cells core AreCellsOf.none = AreCellsOf.none
less_cells core (AreCellsOf.more {type = ty} {cell = cell} {held = held} one rest) = AreCellsOf.more (less_one core ty cell held one) (less_cells core rest)

pub less_kept : (cells : List CellView)
    → map without_values (map (λ (cell : CellView). record cell { values = drop 1 cell.values }) cells) ≡ map without_values cells
less_kept [] = refl
less_kept (cell ∷ cells) = ap (λ cs. without_values cell ∷ cs) (less_kept cells)

more_logged : (f : Value → List ℕ) (taken held : List Value) (logged shown : List (List ℕ)) → logged ≡ map f taken → shown ≡ map f held
    → logged ++ take 1 shown ≡ map f (taken ++ values_there (oldest held ∷ []))
more_logged f taken [] logged shown is there =
    ap (λ rows. logged ++ take 1 rows) there ∙ append-nil logged ∙ is ∙ ap (map f) (sym (append-nil taken))
more_logged f taken (v ∷ later) logged shown is there =
    ap (λ rows. logged ++ take 1 rows) there ∙ ap (λ rows. rows ++ f v ∷ []) is ∙ sym (map-append f taken (v ∷ []))

one_only : {X : Type 0} (xs : List X) (x : X) (place : ℕ) → slice_get xs place ≡ Some x → length xs ≡ 1 → place ≡ 0
one_only [] x place found one = cc
one_only (y ∷ ys) x zero found one = refl
one_only (y ∷ []) x (suc place) found one = cc
one_only (y ∷ z ∷ ys) x (suc place) found one = absurd (omega (arith, one))

module _ (opening : Opening) (bare : Core) (n time : ℕ) (cells : List CellView) (log : LogView) (can : CanExecute opening bare n time cells)
    (right : IsRightLog opening n time log) where
  abbrev taken : Ty
  taken = taken_type opening.core n

  log_side : AreOfSide 1 (wire_to opening.core n) time cells
  log_side = whole_inputs opening.core bare can.opens.core_is n (To right.stream) right.there can.side

  pub log_long : length cells ≡ 1
  log_long = log_side.long

  abbrev seen : List Value
  seen = on_found (at_time opening.core opening.state time) (wire_to opening.core n 0)

  type_of : (place w : ℕ) (wire : WireC) (ty : Ty) → wire_to opening.core n place ≡ Some w → slice_get opening.core.wires w ≡ Some wire
      → slice_get (taken ∷ []) place ≡ Some ty → wire.ty ≡ ty
  type_of zero w wire ty at found is =
      let same : taken ≡ ty = cc in
      sym (ap (type_found opening.core) at ∙ ap type_there found) ∙ same
  type_of (suc place) w wire ty at found is = cc

  log_cells : AreCellsOf opening.core (taken ∷ []) cells (seen ∷ [])
  log_cells =
      side_cells opening.core (at_time opening.core opening.state time) (wire_to opening.core n) cells
      (cell_at opening time 1 (wire_to opening.core n) cells log_side can.wires) (taken ∷ []) log_side.long type_of

  first_is : (cell : CellView) → slice_get cells 0 ≡ Some cell → IsCellOf opening.core taken cell seen
  first_is cell there =
      let at = cell_at opening time 1 (wire_to opening.core n) cells log_side can.wires 0 cell there in
      record {
        wire = at.wire;
        there = at.there;
        ty = type_of 0 cell.number at.wire taken at.is at.there refl;
        holds = subst (λ held. Holds opening.core.types at.wire cell held) (sym (ap (on_found (at_time opening.core opening.state time)) at.is)) at.holds;
      }

  pub log_whole : (place : ℕ) (cell : CellView) (words : List ℕ) → slice_get cells place ≡ Some cell → slice_get cell.values 0 ≡ Some words
      → length words ≡ log.width
  log_whole place cell words there shown =
      let is = first_is cell (subst (λ k. slice_get cells k ≡ Some cell) (one_only cells cell place there log_side.long) there) in
      held_long opening.core.types is.wire cell seen 0 words is.holds shown ∙ whole_words is ∙ sym right.width

  module _ (new : LogView) (logged : (cell : CellView) → slice_get cells 0 ≡ Some cell → new ≡ record log { values = log.values ++ take 1 cell.values }) where
    pub log_next : IsRightLog opening n (time + 1) new
    log_next = by cells refl
      where
        by : (cs : List CellView) → cells ≡ cs → IsRightLog opening n (time + 1) new
        by [] is = absurd (let none = ap length is in let one = log_side.long in omega (arith, none, one))
        by (cell ∷ more) is =
            let first : slice_get cells 0 ≡ Some cell = ap (λ cs. slice_get cs 0) is in
            let log_is = logged cell first in
            record {
              stream = right.stream;
              there = right.there;
              values = ap (λ (v : LogView). v.values) log_is
                  ∙ more_logged (flat opening.core.types taken) (node_at opening.core opening.state n time).taken seen log.values cell.values right.values
                  (words_held (first_is cell first))
                  ∙ ap (λ (part : Part). map (flat opening.core.types taken) part.taken)
                  (sym (part_executed opening.core opening.state n time (To right.stream) right.there can.even));
              width = ap (λ (v : LogView). v.width) log_is ∙ right.width;
              rest = ap (λ (v : LogView). record v { values = [] }) log_is ∙ right.rest;
            }

  pub log_wires : (left : List CellView) → left ≡ map (λ (cell : CellView). record cell { values = drop 1 cell.values }) cells
      → AreRightWires opening (map ticked left)
  log_wires left left_is =
      let half = executed_half opening.core opening.state n time (To right.stream) right.there in
      right_next opening time 1 (wire_to opening.core n) cells log_side can.wires left (ap (map without_values) left_is ∙ less_kept cells) (taken ∷ []) half.side
      (subst (λ cs. AreCellsOf opening.core (taken ∷ []) cs half.side) (sym left_is) (less_cells opening.core log_cells))
      (input_left opening.core opening.state n time (To right.stream) right.there can.even)
