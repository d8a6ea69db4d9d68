-- An engine before its first superstep.
use Rattle.std.proofs.Common.{◌≡◌, ◌<◌, ℕ, List, [], length, Option, Some, slice_get, slice_index_or, refl, ap, sym, ◌∙◌, subst, arith, inl, inr}
use Rattle.std.specs.List.{list_all}
use Rattle.std.specs.Option.{option_to_list, unwrap_or}
use Rattle.std.proofs.lemmas.Bool.{cases_lt}
use Rattle.std.proofs.lemmas.Option.{slice_get_within}
use Rattle.hume_base.specs.declared.types.Value.{Value}
use Rattle.hume_base.specs.Sizes.{size_of}
use Rattle.hume_base.specs.Values.{is_value}
use Rattle.hume_model.specs.declared.core_tree.NodeC.TheVariants.{From, To}
use Rattle.hume_model.specs.declared.core_tree.WireC.{WireC}
use Rattle.hume_model.specs.declared.core_tree.Core.{Core}
use Rattle.hume_net.specs.declared.state.State.{State}
use Rattle.hume_net.specs.Lockstep.{lockstep}
use Rattle.hume_net.specs.Nodes.{IsInput, IsInputStream, IsOutput, IsOutputStream}
use Rattle.hume_net.specs.Parts.{IsStateOf}
use Rattle.hume_net.specs.Sides.{on_wire}
use Rattle.hume_net.specs.Start.{start, no_values}
use Rattle.hume_net.specs.StatePlaces.{BoxesHandleAll}
use Rattle.hume_net.specs.StateTyping.{ComingAreTyped}
use Rattle.hume_net.proofs.Gathered.{mapped_at, numbered_get}
use Rattle.hume_net.proofs.Starts.{length-numbered}
use Rattle.hume_net.proofs.StartTypes.{start_typed}
use Rattle.hume_net.proofs.StatePlaces.{lockstep_places}
use Rattle.hume_net.proofs.WellFormedNets.{typed_net}
use Rattle.model_bare.specs.Bare.{bare_of}
use Rattle.model_bare.proofs.SameCores.{same_count}
use Rattle.hume_streams.specs.Queues.{IsQueueOf, first_view, without_values}
use Rattle.hume_streams.specs.Logs.{LogView}
use Rattle.hume_streams.proofs.Givings.{first_right_as}
use Rattle.wire_cells.specs.Cells.{CellView, Holds, first_cell}
use Rattle.wire_cells.proofs.Holding.{first_holds}
use Rattle.box_step.specs.declared.nodes.cell.Kind.{Kind}
use Rattle.box_step.specs.declared.nodes.cell.Kind.TheVariants.{Coded, Queued, Logged}
use Rattle.box_step.specs.declared.nodes.cell.BoxCell.{BoxCell}
use Rattle.box_step.specs.nodes.Lends.{queue_in, log_in}
use Rattle.box_step.specs.nodes.Openings.{IsOpeningOf}
use Rattle.box_step.specs.nodes.Right.{IsRightNode, IsRightWire, heap_peak_of, stack_peak_of}
use Rattle.box_step.specs.nodes.Beginnings.{first_queue, first_log}
use Rattle.box_step.proofs.nodes_lemmas.Begun.{first_state}
use Rattle.phase_workers.specs.declared.paths.Paths.{Paths}
use Rattle.step_turns.specs.Homes.{IsHome}
use Rattle.phase_workers.specs.Runnable.{IsRunnable}
use Rattle.phase_workers.specs.StreamTypes.{type_at}
use Rattle.phase_workers.specs.inner.Going.{ArePaths}
use Rattle.phase_workers.specs.inner.Making.{AreFirstNodes, AreFirstWires, first_opening}
use Rattle.phase_workers.specs.inner.Whole.{IsQueueFor, IsWhole, heaps_of, log_without, opening_at, queue_without, queues_of, stacks_of}
use Rattle.phase_workers.proofs.AtRest.{at_rest, brought_is, zero_times}
use Rattle.phase_workers.proofs.CellsSeen.{right_as_seen, seen_at}
use Rattle.phase_workers.proofs.Indexes.{index_past, some_at}
use Rattle.phase_workers.proofs.Rounding.{node_of_input}

no_values_come : (core : Core) (n : ℕ) → n < length core.nodes → unwrap_or (slice_get (no_values core) n) [] ≡ []
no_values_come core n less = ap (λ o. unwrap_or o []) (numbered_get {X = List Value} (length core.nodes) (λ m. []) n less)

none_typed : (core : Core) → ComingAreTyped core (no_values core)
none_typed core n stream w wire at there from =
    ap (list_all (is_value core.types wire.ty)) (no_values_come core n (slice_get_within core.nodes n (From stream) at))

start_fits : (core : Core) → IsStateOf core (start core (no_values core))
unfolding lockstep
start_fits core = (lockstep_places core (no_values core) (length-numbered (length core.nodes) (λ node. [])) 0).places

pub first_opens : (core bare : Core) (span : ℕ) → IsRunnable core → BoxesHandleAll core → bare ≡ bare_of core → IsOpeningOf bare (first_opening core span)
first_opens core bare span run handles is = record {
  core_is = is;
  formed = run.formed;
  agree = run.agree;
  handles = handles;
  typed = start_typed core (typed_net core run.formed run.agree).1 (no_values core) (none_typed core);
}

module _ (core : Core) (span n : ℕ) where
  no_peak : (kind : Kind) → IsRightNode (first_opening core span) n 0 kind → (heap_peak_of kind ≡ 0) × (stack_peak_of kind ≡ 0)
  no_peak (Coded box) right = (right.heap, right.stack)
  no_peak (Queued queue) right = (refl, refl)
  no_peak (Logged log) right = (refl, refl)

  queue_first : (kind : Kind) → IsInputStream core n → IsRightNode (first_opening core span) n 0 kind → queue_without (queue_in kind) ≡ first_queue core n span
  queue_first (Coded box) is right = absurd (subst IsInput right.there is)
  queue_first (Queued queue) is right = right.rest
  queue_first (Logged log) is right = absurd (subst IsInput right.there is)

  log_first : (kind : Kind) → IsOutputStream core n → IsRightNode (first_opening core span) n 0 kind → log_without (log_in kind) ≡ first_log core n span
  log_first (Coded box) is right = absurd (subst IsOutput right.there is)
  log_first (Queued queue) is right = absurd (subst IsOutput right.there is)
  log_first (Logged log) is right = right.rest

module _ (core bare : Core) (paths : Paths) (span : ℕ) (nodes : List BoxCell) (home : List (Option CellView)) (run : IsRunnable core)
    (handles : BoxesHandleAll core) (is : bare ≡ bare_of core) (cells : AreFirstNodes core span (length core.nodes) nodes)
    (wires : AreFirstWires core (length core.wires) home) (paths_are : ArePaths bare paths) where
  abbrev first : State
  first = start core (no_values core)

  pub no_peaks_at : (n : ℕ) → (slice_index_or (heaps_of nodes) n 0 ≡ 0) × (slice_index_or (stacks_of nodes) n 0 ≡ 0)
  no_peaks_at n = elim (cases_lt n (length nodes)) [
    | inl less ↦
        let cell = some_at nodes n less in
        let seen = seen_at nodes n cell.0 cell.1 in
        let none = no_peak core span n cell.0.kind (cells.each n cell.0 cell.1).right in
        (seen.0 ∙ none.0, seen.1 ∙ none.1)
    | inr past ↦ (
      index_past (λ (c : BoxCell). heap_peak_of c.kind) nodes n 0 past,
      index_past (λ (c : BoxCell). stack_peak_of c.kind) nodes n 0 past,
    )
  ]

  cell_of : (n : ℕ) → n < length core.nodes → (cell : BoxCell) × (slice_get nodes n ≡ Some cell)
  cell_of n less = (let long = cells.long in some_at nodes n (omega (arith, less, long)))

  pub queue_begun : (n : ℕ) → IsInputStream core n
      → slice_index_or (queues_of nodes) n (first_view 0 0) ≡ first_view (size_of core.types (type_at core n)) span
  queue_begun n input =
      let node = node_of_input core n input in
      let cell = cell_of n (slice_get_within core.nodes n (From node.0) node.1) in
      (seen_at nodes n cell.0 cell.1).2 ∙ queue_first core span n cell.0.kind input (cells.each n cell.0 cell.1).right
      ∙ ap (λ ty. first_view (size_of core.types ty) span) (brought_is core run n input)

  queue_is_for : (n : ℕ) → IsInputStream core n → IsQueueFor core span n (slice_index_or (queues_of nodes) n (first_view 0 0))
  queue_is_for n input = subst (IsQueueFor core span n) (sym (queue_begun n input)) (record { width = refl; span_is = refl })

  first_number : (n : ℕ) (cell : BoxCell) → slice_get nodes n ≡ Some cell → cell.number ≡ n
  first_number n cell at = (cells.each n cell at).number

  first_time : (n : ℕ) (cell : BoxCell) → slice_get nodes n ≡ Some cell → cell.time ≡ 0
  first_time n cell at = (cells.each n cell at).time

  all_wires : length bare.wires ≡ length core.wires
  all_wires = ap (λ (c : Core). length c.wires) is

  first_home : (w : ℕ) → w < length bare.wires → IsHome w 0 home
  first_home w less =
      let all = all_wires in
      let inside : w < length core.wires = omega (arith, less, all) in
      let wire = some_at core.wires w inside in
      record { cell = first_cell core w wire.0; there = wires.each w wire.0 inside wire.1; number = refl; at = refl }

  wire_right : (w : ℕ) (cell : CellView) → slice_get home w ≡ Some (Some cell) → IsRightWire (opening_at core first nodes) cell
  wire_right w cell at =
      let held = slice_get_within home w (Some cell) at in
      let long = wires.long in
      let inside : w < length core.wires = omega (arith, held, long) in
      let wire = some_at core.wires w inside in
      let same : first_cell core w wire.0 ≡ cell =
      (let both : Some (Some (first_cell core w wire.0)) ≡ Some (Some cell) = sym (wires.each w wire.0 inside wire.1) ∙ at in cc) in
      let on : on_wire first w ≡ option_to_list wire.0.initial = mapped_at (λ (x : WireC). option_to_list x.initial) core.wires w wire.0 wire.1 in
      let holds = subst (λ s. Holds core.types wire.0 (first_cell core w wire.0) (on_wire s w)) (sym (first_state core first))
      (subst (Holds core.types wire.0 (first_cell core w wire.0)) (sym on) (first_holds core w wire.0 run.formed.frame wire.1)) in
      subst (IsRightWire (opening_at core first nodes)) same (record { wire = wire.0; there = wire.1; holds = holds })

  pub first_whole : IsWhole core bare paths span first nodes home
  first_whole = record {
    runnable = run;
    opens = record {
      core_is = is;
      formed = run.formed;
      agree = run.agree;
      handles = handles;
      typed = (first_opens core bare span run handles is).typed;
    };
    right = record {
      each = λ n cell at.
          let its = cells.each n cell at in
          subst (λ t. IsRightNode (opening_at core first nodes) cell.number t cell.kind) (sym its.time)
          (subst (λ m. IsRightNode (opening_at core first nodes) m 0 cell.kind) (sym its.number)
          (right_as_seen (first_opening core span) nodes n cell.kind (seen_at nodes n cell at) its.right));
      wires = record { each = wire_right };
    };
    place = at_rest bare nodes home (cells.long ∙ sym (ap (λ (c : Core). length c.nodes) is ∙ same_count core)) first_number
        (zero_times nodes first_time) first_home;
    wires = wires.long;
    begun = first_time;
    paths_are = paths_are;
    queues = queue_is_for;
    logs = λ n stream at.
        let output : IsOutputStream core n = subst IsOutput (sym at) tt in
        let cell = cell_of n (slice_get_within core.nodes n (To stream) at) in
        ap (λ (l : LogView). l.span) ((seen_at nodes n cell.0 cell.1).3 ∙ log_first core span n cell.0.kind output (cells.each n cell.0 cell.1).right);
    fits = start_fits core;
  }

  -- without its values, of which there are none
  pub begun_quiet : (n : ℕ) → IsInputStream core n
      → without_values (slice_index_or (queues_of nodes) n (first_view 0 0)) ≡ first_view (size_of core.types (type_at core n)) span
  begun_quiet n input = ap without_values (queue_begun n input)

  pub first_right : (n : ℕ) → IsInputStream core n → (text : List ℕ)
      → IsQueueOf core.types (type_at core n) (without_values (slice_index_or (queues_of nodes) n (first_view 0 0))) text [] text
  first_right n input text = first_right_as core.types (type_at core n) _ (size_of core.types (type_at core n)) span text (begun_quiet n input)
