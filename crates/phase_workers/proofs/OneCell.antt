-- An engine of which one cell of a stream has changed.
use Rattle.std.proofs.Common.{◌≡◌, ℕ, List, [], map, Option, None, Some, slice_get, slice_set, slice_index_or, ap, sym, ◌∙◌, subst, inl, inr}
use Rattle.std.specs.Option.{option_map, unwrap_or}
use Rattle.std.proofs.lemmas.Bool.{cases_eq}
use Rattle.std.proofs.lemmas.Option.{slice_get_within, slice_get-map}
use Rattle.hume_base.specs.Flat.{flat}
use Rattle.hume_model.specs.declared.core_tree.StreamC.{StreamC}
use Rattle.hume_model.specs.declared.core_tree.NodeC.TheVariants.{To}
use Rattle.hume_model.specs.declared.core_tree.Core.{Core}
use Rattle.hume_net.specs.declared.state.Part.{Part}
use Rattle.hume_net.specs.declared.state.State.{State}
use Rattle.hume_net.specs.Lockstep.{at_time}
use Rattle.hume_net.specs.Nodes.{IsInputStream}
use Rattle.hume_net.specs.Parts.{IsStateOf}
use Rattle.hume_net.specs.Sides.{on_wire, part_of}
use Rattle.hume_net.specs.StateTyping.{IsTypedState}
use Rattle.hume_streams.specs.Queues.{first_view}
use Rattle.hume_streams.specs.Logs.{LogView}
use Rattle.wire_cells.specs.Cells.{CellView, Holds}
use Rattle.box_step.specs.Boxes.{IsBoxAt}
use Rattle.box_step.specs.declared.nodes.cell.Kind.{Kind}
use Rattle.box_step.specs.declared.nodes.cell.Kind.TheVariants.{Coded, Queued, Logged}
use Rattle.box_step.specs.declared.nodes.cell.BoxCell.{BoxCell}
use Rattle.box_step.specs.nodes.Lends.{queue_in, log_in}
use Rattle.box_step.specs.nodes.Openings.{Opening}
use Rattle.box_step.specs.nodes.Right.{IsRightNode, IsRightWire}
use Rattle.box_step.specs.nodes.Sides.{brought_type, taken_type}
use Rattle.box_step.proofs.nodes_lemmas.Begun.{first_state}
use Rattle.phase_workers.specs.declared.paths.Paths.{Paths}
use Rattle.phase_workers.specs.inner.Whole.{IsWhole, IsQueueFor, queue_without, log_without, queues_of, logs_of, opening_at}
use Rattle.phase_workers.proofs.AtRest.{at_rest, home_at, part_at_first, wire_time_is, zero_times}
use Rattle.phase_workers.proofs.CellsSeen.{seen_at, right_as_seen}
use Rattle.phase_workers.proofs.Indexes.{get_set, get_other, index_found, length_set}
use Rattle.phase_workers.proofs.Rounding.{right_cell}

-- what is right for a part is right for the same part of another state
right_part : (opening : Opening) (next : State) (m : ℕ) → part_of next m ≡ part_of opening.state m → (kind : Kind) → IsRightNode opening m 0 kind
    → IsRightNode (record opening { state = next }) m 0 kind
right_part opening next m same (Coded box) right =
    let part = part_at_first opening.core opening.state m ∙ sym same ∙ sym (part_at_first opening.core next m) in
    record {
      b = right.b;
      there = right.there;
      at = subst (λ p. IsBoxAt opening.core right.b p box.value) part right.at;
      heap = right.heap;
      stack = right.stack;
    }
right_part opening next m same (Queued queue) right =
    let part = part_at_first opening.core opening.state m ∙ sym same ∙ sym (part_at_first opening.core next m) in
    record {
      stream = right.stream;
      there = right.there;
      values = right.values ∙ ap (λ (p : Part). map (flat opening.core.types (brought_type opening.core m)) p.coming) part;
      rest = right.rest;
    }
right_part opening next m same (Logged log) right =
    let part = part_at_first opening.core opening.state m ∙ sym same ∙ sym (part_at_first opening.core next m) in
    record {
      stream = right.stream;
      there = right.there;
      values = right.values ∙ ap (λ (p : Part). map (flat opening.core.types (taken_type opening.core m)) p.taken) part;
      width = right.width;
      rest = right.rest;
    }

same_index : {X Y : Type 0} (f : X → Y) (xs ys : List X) (m : ℕ) (d : Y) → slice_get xs m ≡ slice_get ys m
    → slice_index_or (map f xs) m d ≡ slice_index_or (map f ys) m d
same_index f xs ys m d same =
    index_found (map f xs) m d
    ∙ ap (λ o. unwrap_or o d) (slice_get-map f xs m ∙ ap (option_map f) same ∙ sym (slice_get-map f ys m))
    ∙ sym (index_found (map f ys) m d)

module _ (core bare : Core) (paths : Paths) (span : ℕ) (state : State) (nodes : List BoxCell) (home : List (Option CellView))
    (whole : IsWhole core bare paths span state nodes home) (node : ℕ) (cell new : BoxCell) (at : slice_get nodes node ≡ Some cell)
    (number : new.number ≡ cell.number) (time : new.time ≡ cell.time) (next : State) (wires : next.wires ≡ state.wires)
    (parts : (m : ℕ) → (m ≡ node → ⊥) → part_of next m ≡ part_of state m) where
  abbrev cells : List BoxCell
  cells = slice_set nodes node new

  abbrev opening : Opening
  opening = opening_at core state nodes

  abbrev seen : Opening
  seen = opening_at core next cells

  here : slice_get cells node ≡ Some new
  here = get_set nodes node new (slice_get_within nodes node cell at)

  here_is : (c : BoxCell) → slice_get cells node ≡ Some c → new ≡ c
  here_is c there = (let both : Some new ≡ Some c = sym here ∙ there in cc)

  elsewhere : (m : ℕ) → (m ≡ node → ⊥) → (c : BoxCell) → slice_get cells m ≡ Some c → slice_get nodes m ≡ Some c
  elsewhere m apart c there = sym (get_other nodes node new m apart) ∙ there

  pub queue_elsewhere : (m : ℕ) → (m ≡ node → ⊥)
      → slice_index_or (queues_of cells) m (first_view 0 0) ≡ slice_index_or (queues_of nodes) m (first_view 0 0)
  queue_elsewhere m apart =
      same_index (λ (c : BoxCell). queue_without (queue_in c.kind)) cells nodes m (first_view 0 0) (get_other nodes node new m apart)

  pub queue_here_is : slice_index_or (queues_of cells) node (first_view 0 0) ≡ queue_without (queue_in new.kind)
  queue_here_is = (seen_at cells node new here).2

  log_elsewhere : (m : ℕ) → (m ≡ node → ⊥) → slice_index_or (logs_of cells) m (log_without None) ≡ slice_index_or (logs_of nodes) m (log_without None)
  log_elsewhere m apart =
      same_index (λ (c : BoxCell). log_without (log_in c.kind)) cells nodes m (log_without None) (get_other nodes node new m apart)

  next_number : (m : ℕ) (c : BoxCell) → slice_get cells m ≡ Some c → c.number ≡ m
  next_number m c there = elim (cases_eq m node) [
    | inl same ↦ ap (λ (x : BoxCell). x.number) (sym (here_is c (ap (slice_get cells) (sym same) ∙ there))) ∙ number ∙ whole.place.numbers node cell at ∙ sym
        same
    | inr apart ↦ whole.place.numbers m c (elsewhere m apart c there)
  ]

  next_time : (m : ℕ) (c : BoxCell) → slice_get cells m ≡ Some c → c.time ≡ 0
  next_time m c there = elim (cases_eq m node) [
    | inl same ↦ ap (λ (x : BoxCell). x.time) (sym (here_is c (ap (slice_get cells) (sym same) ∙ there))) ∙ time ∙ whole.begun node cell at
    | inr apart ↦ whole.begun m c (elsewhere m apart c there)
  ]

  next_wire : (w : ℕ) (c : CellView) → slice_get home w ≡ Some (Some c) → IsRightWire seen c
  next_wire w c there =
      let right = whole.right.wires.each w c there in
      let zero = wire_time_is core bare paths span state nodes home whole w c there in
      let early = subst (λ s. Holds core.types right.wire c (on_wire s c.number)) (first_state core state)
      (subst (λ t. Holds core.types right.wire c (on_wire (at_time core state t) c.number)) zero right.holds) in
      let now : Holds core.types right.wire c (on_wire next c.number) =
      subst (λ ws. Holds core.types right.wire c (unwrap_or (slice_get ws c.number) [])) (sym wires) early in
      record {
        wire = right.wire;
        there = right.there;
        holds = subst (λ t. Holds core.types right.wire c (on_wire (at_time core next t) c.number)) (sym zero)
            (subst (λ s. Holds core.types right.wire c (on_wire s c.number)) (sym (first_state core next)) now);
      }

  module _ (right : IsRightNode seen node 0 new.kind) (typed : IsTypedState core next) (fits : IsStateOf core next)
      (queue_here : IsInputStream core node → IsQueueFor core span node (queue_without (queue_in new.kind)))
      (log_here : (stream : StreamC) → slice_get core.nodes node ≡ Some (To stream) → (log_without (log_in new.kind)).span ≡ span) where
    next_right : (m : ℕ) (c : BoxCell) → slice_get cells m ≡ Some c → IsRightNode seen m 0 c.kind
    next_right m c there = elim (cases_eq m node) [
      | inl same ↦ subst (λ (x : BoxCell). IsRightNode seen m 0 x.kind) (here_is c (ap (slice_get cells) (sym same) ∙ there))
          (subst (λ k. IsRightNode seen k 0 new.kind) (sym same) right)
      | inr apart ↦
          right_as_seen (record opening { state = next }) cells m c.kind (seen_at cells m c there)
          (right_part opening next m (parts m apart) c.kind
          (right_cell core bare paths span state nodes home whole m c (elsewhere m apart c there)))
    ]

    next_queue : (m : ℕ) → IsInputStream core m → IsQueueFor core span m (slice_index_or (queues_of cells) m (first_view 0 0))
    next_queue m is = elim (cases_eq m node) [
      | inl same ↦
          subst (λ k. IsQueueFor core span k (slice_index_or (queues_of cells) k (first_view 0 0))) (sym same)
          (subst (IsQueueFor core span node) (sym queue_here_is) (queue_here (subst (IsInputStream core) same is)))
      | inr apart ↦ subst (IsQueueFor core span m) (sym (queue_elsewhere m apart)) (whole.queues m is)
    ]

    next_log : (m : ℕ) (stream : StreamC) → slice_get core.nodes m ≡ Some (To stream)
        → (slice_index_or (logs_of cells) m (log_without None)).span ≡ span
    next_log m stream there = elim (cases_eq m node) [
      | inl same ↦
          ap (λ k. (slice_index_or (logs_of cells) k (log_without None)).span) same
          ∙ ap (λ (l : LogView). l.span) ((seen_at cells node new here).3) ∙ log_here stream (ap (slice_get core.nodes) (sym same) ∙ there)
      | inr apart ↦ ap (λ (l : LogView). l.span) (log_elsewhere m apart) ∙ whole.logs m stream there
    ]

    pub one_whole : IsWhole core bare paths span next cells home
    one_whole = record {
      runnable = whole.runnable;
      opens = record {
        core_is = whole.opens.core_is;
        formed = whole.opens.formed;
        agree = whole.opens.agree;
        handles = whole.opens.handles;
        typed = typed;
      };
      right = record {
        each = λ m c there.
            subst (λ t. IsRightNode seen c.number t c.kind) (sym (next_time m c there))
            (subst (λ k. IsRightNode seen k 0 c.kind) (sym (next_number m c there)) (next_right m c there));
        wires = record { each = next_wire };
      };
      place = at_rest bare cells home (length_set nodes node new ∙ whole.place.count) next_number (zero_times cells next_time)
          (home_at core bare paths span state nodes home whole);
      wires = whole.wires;
      begun = next_time;
      paths_are = whole.paths_are;
      queues = next_queue;
      logs = next_log;
      fits = fits;
    }
