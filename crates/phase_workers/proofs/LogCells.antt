-- An engine of which an output stream has another log.
use Rattle.std.proofs.Common.{◌≡◌, ◌<◌, ℕ, true, List, [], ◌∷◌, map, length, Option, Some, slice_get, slice_set, refl, ap, sym, ◌∙◌, subst, arith, inl, inr}
use Rattle.std.specs.List.{AllZip, list_all}
use Rattle.std.specs.Option.{unwrap_or}
use Rattle.std.proofs.lemmas.Bool.{and_parts, cases_eq}
use Rattle.std.proofs.lemmas.Option.{slice_get_within}
use Rattle.hume_base.specs.Flat.{flat}
use Rattle.hume_base.specs.Sizes.{size_of}
use Rattle.hume_base.specs.Values.{is_value}
use Rattle.hume_base.specs.declared.types.Ty.{Ty}
use Rattle.hume_base.specs.declared.types.Types.{Types}
use Rattle.hume_base.specs.declared.types.Value.{Value}
use Rattle.hume_model.specs.declared.core_tree.NodeC.TheVariants.{To}
use Rattle.hume_model.specs.declared.core_tree.Core.{Core}
use Rattle.hume_net.specs.declared.state.Part.{Part}
use Rattle.hume_net.specs.declared.state.State.{State}
use Rattle.hume_net.specs.Lockstep.{node_at}
use Rattle.hume_net.specs.Nodes.{IsInput, IsInputStream, IsOutputStream}
use Rattle.hume_net.specs.Parts.{IsStateOf}
use Rattle.hume_net.specs.Sides.{part_of}
use Rattle.hume_net.specs.StateTyping.{IsTypedState}
use Rattle.hume_net.proofs.FoundWires.{to_each, to_leads}
use Rattle.hume_text.specs.Printed.{AreWordsOf}
use Rattle.hume_streams.specs.declared.log.OutLog.{OutLog}
use Rattle.hume_streams.specs.Logs.{log_view}
use Rattle.wire_cells.specs.Cells.{CellView}
use Rattle.box_step.specs.declared.nodes.cell.Kind.{Kind}
use Rattle.box_step.specs.declared.nodes.cell.Kind.TheVariants.{Coded, Queued, Logged}
use Rattle.box_step.specs.declared.nodes.cell.BoxCell.{BoxCell}
use Rattle.box_step.specs.nodes.Lends.{queue_in, log_in, with_log}
use Rattle.box_step.specs.nodes.Openings.{Opening}
use Rattle.box_step.specs.nodes.Right.{IsRightNode, heap_peak_of, stack_peak_of}
use Rattle.box_step.specs.nodes.Sides.{taken_type}
use Rattle.phase_workers.specs.declared.paths.Paths.{Paths}
use Rattle.phase_workers.specs.Runnable.{IsRunnable}
use Rattle.phase_workers.specs.StreamTypes.{type_at}
use Rattle.phase_workers.specs.inner.Whole.{IsWhole, queue_without, log_without, queues_of, heaps_of, stacks_of, opening_at}
use Rattle.phase_workers.proofs.AtRest.{log_there, part_at_first, taken_is}
use Rattle.phase_workers.proofs.CellsSeen.{seen_at}
use Rattle.phase_workers.proofs.Indexes.{get_set, get_other, length_set, map_set}
use Rattle.phase_workers.proofs.OneCell.{one_whole}
use Rattle.phase_workers.proofs.Rounding.{node_of_output, right_cell}
use Rattle.phase_workers.proofs.Wires.{output_type}

log_in_with : (kind : Kind) (log later : OutLog) → log_in kind ≡ Some log → log_in (with_log kind later) ≡ Some later
log_in_with (Coded box) log later had = cc
log_in_with (Queued queue) log later had = cc
log_in_with (Logged old) log later had = refl

same_queue_in : (kind : Kind) (later : OutLog) → queue_in (with_log kind later) ≡ queue_in kind
same_queue_in (Coded box) later = refl
same_queue_in (Queued queue) later = refl
same_queue_in (Logged old) later = refl

same_heap : (kind : Kind) (later : OutLog) → heap_peak_of (with_log kind later) ≡ heap_peak_of kind
same_heap (Coded box) later = refl
same_heap (Queued queue) later = refl
same_heap (Logged old) later = refl

same_stack : (kind : Kind) (later : OutLog) → stack_peak_of (with_log kind later) ≡ stack_peak_of kind
same_stack (Coded box) later = refl
same_stack (Queued queue) later = refl
same_stack (Logged old) later = refl

-- a log with the values that its stream has taken is right
right_log : (before opening : Opening) (n : ℕ) (kind : Kind) (log later : OutLog) → opening.core ≡ before.core → log_in kind ≡ Some log
    → IsRightNode before n 0 kind
    → (log_view later).values ≡ map (flat opening.core.types (taken_type opening.core n)) (node_at opening.core opening.state n 0).taken
    → (log_view later).width ≡ (log_view log).width → log_without (Some later) ≡ opening.logs n → IsRightNode opening n 0 (with_log kind later)
right_log before opening n (Coded box) log later same had right values width rest = cc
right_log before opening n (Queued queue) log later same had right values width rest = cc
right_log before opening n (Logged old) log later same had right values width rest =
    let own : old.value ≡ log = cc in
    record {
      stream = right.stream;
      there = ap (λ (c : Core). slice_get c.nodes n) same ∙ right.there;
      values = values;
      width = width ∙ sym (ap (λ (l : OutLog). (log_view l).width) own) ∙ right.width ∙ ap (λ (c : Core). size_of c.types (taken_type c n)) (sym same);
      rest = rest;
    }

module _ (core bare : Core) (paths : Paths) (span : ℕ) (state : State) (nodes : List BoxCell) (home : List (Option CellView))
    (whole : IsWhole core bare paths span state nodes home) (node : ℕ) (is : IsOutputStream core node) (cell new : BoxCell)
    (at : slice_get nodes node ≡ Some cell) (log later : OutLog) (had : log_in cell.kind ≡ Some log)
    (new_is : new ≡ record cell { kind = with_log cell.kind later }) where
  new_kind : new.kind ≡ with_log cell.kind later
  new_kind = ap (λ (c : BoxCell). c.kind) new_is

  pub queues_kept : queues_of (slice_set nodes node new) ≡ queues_of nodes
  queues_kept =
      map_set (λ (c : BoxCell). queue_without (queue_in c.kind)) nodes node new cell at
      (ap queue_without (ap queue_in new_kind ∙ same_queue_in cell.kind later))

  pub heaps_kept : heaps_of (slice_set nodes node new) ≡ heaps_of nodes
  heaps_kept = map_set (λ (c : BoxCell). heap_peak_of c.kind) nodes node new cell at (ap heap_peak_of new_kind ∙ same_heap cell.kind later)

  pub stacks_kept : stacks_of (slice_set nodes node new) ≡ stacks_of nodes
  stacks_kept = map_set (λ (c : BoxCell). stack_peak_of c.kind) nodes node new cell at (ap stack_peak_of new_kind ∙ same_stack cell.kind later)

  -- what the log holds
  pub log_holds : (log_view log).values ≡ map (flat core.types (type_at core node)) (part_of state node).taken
  log_holds =
      let its = log_there core bare paths span state nodes home whole node is in
      let cells : its.0 ≡ cell = (let both : Some its.0 ≡ Some cell = sym its.1 ∙ at in cc) in
      let logs : its.2 ≡ log = (let both : Some its.2 ≡ Some log = sym its.3 ∙ ap (λ (c : BoxCell). log_in c.kind) cells ∙ had in cc) in
      sym (ap (λ l. (log_view l).values) logs) ∙ its.4

  module _ (next : State) (wires : next.wires ≡ state.wires) (parts : (m : ℕ) → (m ≡ node → ⊥) → part_of next m ≡ part_of state m)
      (values : (log_view later).values ≡ map (flat core.types (type_at core node)) (part_of next node).taken)
      (width : (log_view later).width ≡ (log_view log).width) (span_is : (log_view later).span ≡ (log_view log).span)
      (typed : IsTypedState core next) (fits : IsStateOf core next) where
    abbrev seen : Opening
    seen = opening_at core next (slice_set nodes node new)

    here : slice_get (slice_set nodes node new) node ≡ Some new
    here = get_set nodes node new (slice_get_within nodes node cell at)

    log_is : log_in new.kind ≡ Some later
    log_is = ap log_in new_kind ∙ log_in_with cell.kind log later had

    wide : (log_view log).span ≡ span
    wide =
        let its = log_there core bare paths span state nodes home whole node is in
        let cells : its.0 ≡ cell = (let both : Some its.0 ≡ Some cell = sym its.1 ∙ at in cc) in
        let logs : its.2 ≡ log = (let both : Some its.2 ≡ Some log = sym its.3 ∙ ap (λ (c : BoxCell). log_in c.kind) cells ∙ had in cc) in
        sym (ap (λ l. (log_view l).span) logs) ∙ its.6

    right : IsRightNode seen node 0 new.kind
    right =
        let all = values ∙ ap (λ ty. map (flat core.types ty) (part_of next node).taken) (sym (taken_is core whole.runnable node is))
        ∙ ap (λ (p : Part). map (flat core.types (taken_type core node)) p.taken) (sym (part_at_first core next node)) in
        subst (IsRightNode seen node 0) (sym new_kind)
        (right_log (opening_at core state nodes) seen node cell.kind log later refl had
        (right_cell core bare paths span state nodes home whole node cell at) all width
        (sym ((seen_at (slice_set nodes node new) node new here).3 ∙ ap log_without log_is)))

    no_input : IsInputStream core node → ⊥
    no_input input = (let its = node_of_output core node is in subst IsInput its.1 input)

    pub log_whole : IsWhole core bare paths span next (slice_set nodes node new) home
    log_whole =
        one_whole core bare paths span state nodes home whole node cell new at (ap (λ (c : BoxCell). c.number) new_is)
        (ap (λ (c : BoxCell). c.time) new_is) next wires parts right typed fits (λ input. absurd (no_input input))
        (λ stream there. ap (λ o. (log_without o).span) log_is ∙ span_is ∙ wide)

-- what an output stream has taken is of its type

pub taken_typed : (core : Core) → IsRunnable core → (state : State) → IsTypedState core state → (n : ℕ) → IsOutputStream core n
    → list_all (is_value core.types (type_at core n)) (part_of state n).taken ≡ true
taken_typed core run state typed n is =
    let node = node_of_output core n is in
    let found = to_each core run.wired n 0 (To node.0) node.1 (omega arith) in
    let wire = to_leads core n 0 found.0 found.1 in
    ap (λ ty. list_all (is_value core.types ty) (part_of state n).taken) (output_type core run n found.0 wire.0 wire.1 is wire.2)
    ∙ typed.taken n node.0 found.0 wire.0 node.1 wire.1 wire.2 wire.3

pub words_of_values : (types : Types) (ty : Ty) (words : List (List ℕ)) (vs : List Value) → words ≡ map (flat types ty) vs
    → list_all (is_value types ty) vs ≡ true → AllZip (AreWordsOf types ty) words vs
words_of_values types ty words vs is typed = subst (λ ws. AllZip (AreWordsOf types ty) ws vs) (sym is) (each vs typed)
  where
    each : (xs : List Value) → list_all (is_value types ty) xs ≡ true → AllZip (AreWordsOf types ty) (map (flat types ty) xs) xs
    each [] all = tt
    each (x ∷ xs) all =
        let parts = and_parts (is_value types ty x) (list_all (is_value types ty) xs) all in
        (record { typed = parts.0; same = refl }, each xs parts.1)

-- a state that has forgotten what a stream took

abbrev pub cleared : ℕ → State → State
cleared node state = record state { taken = slice_set state.taken node [] }

module _ (core : Core) (node : ℕ) (state : State) (inside : node < length core.nodes) (fits : IsStateOf core state) where
  pub cleared_other : (m : ℕ) → (m ≡ node → ⊥) → part_of (cleared node state) m ≡ part_of state m
  cleared_other m apart = ap (λ vs. record (part_of state m) { taken = unwrap_or vs [] }) (get_other state.taken node [] m apart)

  pub cleared_here : (part_of (cleared node state) node).taken ≡ []
  cleared_here = (let long = fits.taken in ap (λ vs. unwrap_or vs []) (get_set state.taken node [] (omega (arith, inside, long))))

  pub cleared_fits : IsStateOf core (cleared node state)
  cleared_fits = record {
    wires = fits.wires;
    pending = fits.pending;
    orders = fits.orders;
    coming = fits.coming;
    taken = length_set state.taken node [] ∙ fits.taken;
  }

  pub cleared_typed : IsTypedState core state → IsTypedState core (cleared node state)
  cleared_typed typed = record {
    wires = typed.wires;
    pending = typed.pending;
    coming = typed.coming;
    taken = λ n stream w wire there found to port. elim (cases_eq n node) [
      | inl same ↦ ap (list_all (is_value core.types wire.ty)) (ap (λ k. (part_of (cleared node state) k).taken) same ∙ cleared_here)
      | inr apart ↦ ap (λ (p : Part). list_all (is_value core.types wire.ty) p.taken) (cleared_other n apart)
          ∙ typed.taken n stream w wire there found to port
    ];
  }
