-- An engine of which the queue of an input stream was filled.
use Rattle.std.proofs.Common.{◌≡◌, ◌+◌, ◌-◌, ◌<◌, ◌≤◌, max, ℕ, true, List, [], ◌++◌, map, length, Option, None, Some, Result, Ok, Err, slice_get, slice_set, refl, ap, sym, ◌∙◌, subst, arith, inl, inr, length-append}
use Rattle.std.specs.List.{list_all}
use Rattle.std.specs.Option.{unwrap_or}
use Rattle.std.proofs.lemmas.Bool.{cases_eq, cases_lt}
use Rattle.std.proofs.lemmas.List.{length-map, map-append}
use Rattle.std.proofs.lemmas.List.Folds.{list_all-append}
use Rattle.std.proofs.lemmas.Option.{slice_get_within}
use Rattle.hume_base.specs.declared.types.Ty.{Ty}
use Rattle.hume_base.specs.declared.types.Types.{Types}
use Rattle.hume_base.specs.declared.types.Value.{Value}
use Rattle.hume_base.specs.Flat.{flat}
use Rattle.hume_base.specs.Values.{is_value}
use Rattle.hume_model.specs.declared.core_tree.NodeC.TheVariants.{From}
use Rattle.hume_model.specs.declared.core_tree.Core.{Core}
use Rattle.hume_model.specs.Readers.{value_from}
use Rattle.hume_model.proofs.WellFormedCores.{readable_sizes}
use Rattle.hume_net.specs.declared.state.Part.{Part}
use Rattle.hume_net.specs.declared.state.State.{State}
use Rattle.hume_net.specs.Nodes.{IsInputStream}
use Rattle.hume_net.specs.Parts.{IsStateOf}
use Rattle.hume_net.specs.Sides.{part_of}
use Rattle.hume_net.specs.StateTyping.{IsTypedState}
use Rattle.hume_net.proofs.FoundWires.{from_comes, from_each}
use Rattle.hume_ports.specs.Port.{PortView}
use Rattle.hume_streams.specs.declared.queue.FillError.{FillError}
use Rattle.hume_streams.specs.declared.queue.FillError.TheVariants.{BadValue, Failed}
use Rattle.hume_streams.specs.declared.queue.InQueue.{InQueue}
use Rattle.hume_streams.specs.Fills.{Fills, HasReadWholeLines, EndsFill as EndsQueue}
use Rattle.hume_streams.specs.Good.{IsGoodUntil}
use Rattle.hume_streams.specs.Queues.{QueueView, IsQueueOf, queue_view, without_values}
use Rattle.wire_cells.specs.Cells.{CellView}
use Rattle.box_step.specs.declared.nodes.cell.BoxCell.{BoxCell}
use Rattle.box_step.specs.nodes.Lends.{queue_in, with_queue}
use Rattle.phase_workers.specs.declared.paths.Paths.{Paths}
use Rattle.phase_workers.specs.Engines.{EngineView, coming_at, queue_at}
use Rattle.phase_workers.specs.NodeFills.{EndsFill, fed_at}
use Rattle.phase_workers.specs.Runnable.{IsRunnable}
use Rattle.phase_workers.specs.StreamTypes.{type_at}
use Rattle.phase_workers.specs.inner.Whole.{IsWhole}
use Rattle.phase_workers.proofs.Indexes.{get_set, get_other, index_found, length_set}
use Rattle.phase_workers.proofs.QueueCells.{queue_holds, queue_whole}
use Rattle.phase_workers.proofs.Rounding.{node_of_input}
use Rattle.phase_workers.proofs.ValuesRead.{values_back}
use Rattle.phase_workers.proofs.Wires.{input_type}

-- what comes from an input stream is of its type
coming_typed : (core : Core) → IsRunnable core → (state : State) → IsTypedState core state → (n : ℕ) → IsInputStream core n
    → list_all (is_value core.types (type_at core n)) (part_of state n).coming ≡ true
coming_typed core run state typed n is =
    let node = node_of_input core n is in
    let found = from_each core run.wired n 0 (From node.0) node.1 (omega arith) in
    let wire = from_comes core n 0 found.0 found.1 in
    ap (λ ty. list_all (is_value core.types ty) (part_of state n).coming) (input_type core run n found.0 wire.0 wire.1 is wire.2)
    ∙ typed.coming n node.0 found.0 wire.0 node.1 wire.1 wire.2

few_gained : (want before after had gained : ℕ) → after ≤ max want before → after ≡ had + gained → before ≡ had → gained ≤ want - had
few_gained want before after had gained bound all was = omega (arith, bound, all, was)

module _ (core bare : Core) (paths : Paths) (span : ℕ) (state : State) (nodes : List BoxCell) (home : List (Option CellView))
    (whole : IsWhole core bare paths span state nodes home) (node : ℕ) (is : IsInputStream core node) (cell new : BoxCell)
    (at : slice_get nodes node ≡ Some cell) (queue later : InQueue) (had : queue_in cell.kind ≡ Some queue)
    (new_is : new ≡ record cell { kind = with_queue cell.kind later }) where
  abbrev types : Types
  types = core.types

  abbrev ty : Ty
  ty = type_at core node

  abbrev coming : List Value
  coming = (part_of state node).coming

  abbrev came : List Value
  came = map (value_from types ty) (queue_view later).values

  abbrev pub next : State
  next = record state { coming = slice_set state.coming node came }

  inside : node < length state.coming
  inside =
      let at_core = node_of_input core node is in
      let less = slice_get_within core.nodes node (From at_core.0) at_core.1 in
      let long = whole.fits.coming in
      omega (arith, less, long)

  pub next_coming : (part_of next node).coming ≡ came
  next_coming = ap (λ vs. unwrap_or vs []) (get_set state.coming node came inside)

  pub parts_kept : (m : ℕ) → (m ≡ node → ⊥) → part_of next m ≡ part_of state m
  parts_kept m apart = ap (λ vs. record (part_of state m) { coming = unwrap_or vs [] }) (get_other state.coming node came m apart)

  module _ (want : ℕ) (before after : PortView) (result : Result (Unit {0}) FillError)
      (fill : Fills types ty want (queue_view queue) (queue_view later) before after result) where
    all_words : (queue_view later).values ≡ map (flat types ty) (coming ++ fill.gained)
    all_words =
        fill.words
        ∙ ap (λ rows. rows ++ map (flat types ty) fill.gained) (queue_holds core bare paths span state nodes home whole node is cell new at queue later
        had new_is)
        ∙ sym (map-append (flat types ty) coming fill.gained)

    all_typed : list_all (is_value types ty) (coming ++ fill.gained) ≡ true
    all_typed = list_all-append (is_value types ty) coming fill.gained ∙ rw (coming_typed core whole.runnable state whole.opens.typed node is) fill.typed

    -- no more values come than are wanted
    pub gained_few : length fill.gained ≤ want - length coming
    gained_few =
        let all : length (queue_view later).values ≡ length (coming ++ fill.gained) = ap length all_words ∙ length-map (coming ++ fill.gained) (flat types ty) in
        let had_all : length (queue_view queue).values ≡ length coming =
        ap length (queue_holds core bare paths span state nodes home whole node is cell new at queue later had new_is) ∙ length-map coming (flat types ty) in
        few_gained want (length (queue_view queue).values) (length (queue_view later).values) (length coming) (length fill.gained)
        fill.gains.bound (all ∙ length-append coming fill.gained) had_all

    more : came ≡ coming ++ fill.gained
    more =
        ap (map (value_from types ty)) all_words
        ∙ values_back types whole.runnable.formed.frame.sizes (readable_sizes core whole.runnable.formed) ty (coming ++ fill.gained) all_typed

    pub next_is_fed : next ≡ fed_at node fill.gained state
    next_is_fed =
        ap (λ vs. record state { coming = slice_set state.coming node vs })
        (more ∙ ap (λ vs. vs ++ fill.gained) (sym (index_found state.coming node [])))

    typed : IsTypedState core next
    typed = record {
      wires = whole.opens.typed.wires;
      pending = whole.opens.typed.pending;
      taken = whole.opens.typed.taken;
      coming = λ n stream w wire there found from. elim (cases_eq n node) [
        | inl same ↦
            ap (list_all (is_value types wire.ty)) (ap (λ k. (part_of next k).coming) same ∙ next_coming ∙ more)
            ∙ ap (λ t. list_all (is_value types t) (coming ++ fill.gained)) (sym (input_type core whole.runnable node w wire found is (from ∙ same))) ∙ all_typed
        | inr apart ↦ ap (λ (p : Part). list_all (is_value types wire.ty) p.coming) (parts_kept n apart)
            ∙ whole.opens.typed.coming n stream w wire there found from
      ];
    }

    fits : IsStateOf core next
    fits = record {
      wires = whole.fits.wires;
      pending = whole.fits.pending;
      orders = whole.fits.orders;
      coming = length_set state.coming node came ∙ whole.fits.coming;
      taken = whole.fits.taken;
    }

    pub filled_whole : IsWhole core bare paths span next (slice_set nodes node new) home
    filled_whole =
        queue_whole core bare paths span state nodes home whole node is cell new at queue later had new_is next refl parts_kept
        (all_words ∙ ap (map (flat types ty)) (sym more ∙ sym next_coming)) fill.gains.width fill.gains.span typed fits

    -- the ends of a fill

    module _ (engine : EngineView) (core_is : engine.core ≡ core) (state_is : engine.state ≡ next)
        (queue_now : queue_at engine node ≡ without_values (queue_view later)) where
      comes_long : length (coming_at engine node) ≡ length (queue_view later).values
      comes_long =
          ap length (ap (λ s. (part_of s node).coming) state_is ∙ next_coming) ∙ length-map (queue_view later).values (value_from types ty)

      right_here : (text : List ℕ) (read : List Value) (rest : List ℕ)
          → IsQueueOf engine.core.types (type_at engine.core node) (queue_at engine node) text read rest
          → IsQueueOf types ty (without_values (queue_view later)) text read rest
      right_here text read rest q =
          subst (λ v. IsQueueOf types ty v text read rest) queue_now
          (subst (λ (c : Core). IsQueueOf c.types (type_at c node) (queue_at engine node) text read rest) core_is q)

      good : (text : List ℕ) (read : List Value) (bad : Option ℕ) → IsGoodUntil types ty text read bad
          → IsGoodUntil engine.core.types (type_at engine.core node) text read bad
      good text read bad all = subst (λ (c : Core). IsGoodUntil c.types (type_at c node) text read bad) (sym core_is) all

      whole_lines : HasReadWholeLines (queue_view later) → HasReadWholeLines (queue_at engine node)
      whole_lines read = subst HasReadWholeLines (sym queue_now) (record { begun = read.begun; goes_on = read.goes_on })

      pub ends_fill : (how : Result (Unit {0}) FillError) → EndsQueue types ty want (queue_view later) before after how → EndsFill want engine node how
      ends_fill (Ok _) ends = elim (cases_lt (length (queue_view later).values) want) [
        | inl few ↦
            let all = ends.1 few in
            inr (record {
              ended = ap (λ (q : QueueView). q.ended) queue_now ∙ all.0;
              all = λ text read q. good text read None (all.1 text read (right_here text read [] q));
            })
        | inr many ↦ inl (let long = comes_long in omega (arith, long, many))
      ]
      ends_fill (Err (BadValue line)) ends = (
        λ enough. (let long = comes_long in let few = ends.1 in omega (arith, long, few, enough)),
        λ text read rest q. let a = ends.2 text read rest (right_here text read rest q) in (a.0, a.1, good text read (Some a.0) a.2),
      )
      ends_fill (Err Failed) ends = record { few = (let long = comes_long in let low = ends.1 in omega (arith, long, low)); whole = whole_lines ends.3 }
