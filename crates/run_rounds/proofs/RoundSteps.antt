-- A round is made, and its lines are written.
use Rattle.std.proofs.Common.{◌≡◌, ◌⊎◌, ℕ, zero, suc, ◌≤◌, max, Bool, true, false, List, [], ◌∷◌, ◌++◌, length, None, Some, slice_get, Result, Ok, Err, refl, ap, sym, ◌∙◌, subst, inl, inr, arith, append_assoc, append-nil}
use Rattle.std.proofs.lemmas.Option.{slice_get_within}
use Rattle.hume_base.specs.declared.types.Value.{Value}
use Rattle.hume_model.specs.declared.core_tree.NodeC.{NodeC}
use Rattle.hume_model.specs.declared.core_tree.NodeC.TheVariants.{From}
use Rattle.hume_model.specs.declared.core_tree.StreamC.{StreamC}
use Rattle.hume_model.specs.declared.core_tree.Core.{Core}
use Rattle.hume_net.specs.declared.state.State.{State}
use Rattle.hume_net.specs.Lockstep.{lockstep}
use Rattle.hume_net.specs.Sides.{on_wire, part_of}
use Rattle.hume_net.specs.Start.{start}
use Rattle.hume_net.specs.rounds.Blocked.{blocking}
use Rattle.hume_net.specs.rounds.Pieces.{IsFilled, IsPieceOf}
use Rattle.hume_net.specs.rounds.Rounds.{begins, ends, length_of, made as after_rounds}
use Rattle.hume_net.specs.rounds.Streams.{gained}
use Rattle.hume_net.proofs.rounds_lemmas.Blocking.{nothing_blocks}
use Rattle.hume_net.proofs.rounds_lemmas.RoundCounts.{made_more, round_counted, round_ends}
use Rattle.hume_net.proofs.rounds_lemmas.Rounds.{round_piece, round_gained}
use Rattle.hume_net.proofs.rounds_lemmas.Streams.{others_take_nothing}
use Rattle.hume_ports.specs.declared.port.Failed.{Failed}
use Rattle.hume_ports.specs.Port.{PortView}
use Rattle.hume_ports.specs.Delivery.{Pairs}
use Rattle.port_acts.specs.Acts.{Act, write_each}
use Rattle.port_acts.specs.Ends.{Ends, Fails, Made, never}
use Rattle.port_acts.proofs.Failing.{Fails-any, Fails-on, Fails-stop}
use Rattle.port_acts.proofs.Making.{Made-on}
use Rattle.box_costs.specs.declared.cost.Cost.{Cost}
use Rattle.net_costs.specs.Steps.{peaks}
use Rattle.phase_workers.specs.Engines.{EngineView as Engine}
use Rattle.phase_workers.specs.Engines.{core_of, queue_at, state_of, span_of as room_of, heap_peak_at, stack_peak_at}
use Rattle.phase_workers.specs.Runnable.{IsRunnable}
use Rattle.run_rounds.specs.Inputs.{Inputs, is_bad}
use Rattle.run_rounds.specs.RunActs.{made_acts, reading, rounds_acts, run_few}
use Rattle.run_rounds.specs.MadeRounds.{FailsInRounds, IsPeak}
use Rattle.trace_print.specs.TraceLines.{line_there, step_line, wire_lines}
use Rattle.run_rounds.specs.Writes.{gained_writes, round_writes, span_of, told, trace_writes, writes_of_node, writes_of_nodes}
use Rattle.run_rounds.specs.inner.Beginning.{MayBegin}
use Rattle.run_rounds.specs.inner.Clearing.{Clears}
use Rattle.run_rounds.specs.inner.Reading.{MayCome, later_of}
use Rattle.run_rounds.specs.inner.Rounding.{PeaksGrow, told_now, wires_now}
use Rattle.run_rounds.specs.inner.Standing.{AreUnblocked, EndsAreTold, IsAfter, IsCleared, IsPieceAt}
use Rattle.run_rounds.specs.inner.Steps.{Stands, StandsAfter, StandsFilling, filling_acts}
use Rattle.run_rounds.proofs.ActSteps.{rounds_more, some_span, unblocked_first}
use Rattle.run_rounds.proofs.Clearings.{output_or_not}
use Rattle.run_rounds.proofs.Filled.{is_filled}
use Rattle.run_rounds.proofs.Peaks.{peaks_alike, peaks_together}
use Rattle.run_rounds.proofs.Ranges.{same_flat}
use Rattle.run_rounds.proofs.Standings.{begun, comes, goes_on, item_at, may}
use Rattle.run_rounds.proofs.Tellings.{item_in}

-- nodes that have taken the same write the same
pub same_writes : (core : Core) (first second : ℕ → List Value) → ((n : ℕ) (node : NodeC) → slice_get core.nodes n ≡ Some node → first n ≡ second n)
    → writes_of_nodes core first ≡ writes_of_nodes core second
same_writes core first second same =
    same_flat (λ n. writes_of_node core n (slice_get core.nodes n) (first n)) (λ n. writes_of_node core n (slice_get core.nodes n) (second n)) 0 (length core.nodes)
    (λ n least most. (let item = item_at core.nodes n (omega (arith, most)) in
    ap (writes_of_node core n (slice_get core.nodes n)) (same n item.0 item.1)))

-- states with the same on all wires are told alike
pub same_wires : (core : Core) (earlier later : ℕ → List Value) (piece whole : State) → IsPieceOf core earlier later piece whole
    → wire_lines core (on_wire piece) ≡ wire_lines core (on_wire whole)
same_wires core earlier later piece whole it =
    same_flat (λ w. line_there core (on_wire piece w) (slice_get core.wires w)) (λ w. line_there core (on_wire whole w) (slice_get core.wires w)) 0 (length core.wires)
    (λ w least most. (let item = item_in core.wires w (omega (arith, most)) in
    ap (λ held. line_there core held (slice_get core.wires w)) (sym (it.wires w item.0 item.1))))

-- an earlier round, or the one that was made
earlier_or_now : (round done : ℕ) → round ≤ suc done → (round ≤ done) ⊎ (round ≡ suc done)
earlier_or_now zero done most = inl (omega arith)
earlier_or_now (suc round) zero most = inr (omega (arith, most))
earlier_or_now (suc round) (suc done) most = elim (earlier_or_now round done (omega (arith, most))) [
  | inl less ↦ inl (omega (arith, less))
  | inr same ↦ inr (ap suc same)
]

-- the queues at all nodes, where they are the same at each
same_queues : (first second : Engine) → ((n : ℕ) → queue_at second n ≡ queue_at first n) → queue_at first ≡ queue_at second
same_queues first second same i n = sym (same n) i

module _ (core : Core) (run : IsRunnable core) (traced : Bool) (steps done want : ℕ) (olds mids : List PortView) (old : Engine) (same_core : core_of old ≡ core)
    (filling : StandsFilling core traced steps done (length core.nodes) want olds mids old) where
  abbrev acts_of : List (List Value) → List Act
  acts_of = filling_acts core traced steps done (length core.nodes)

  abbrev stands : Stands core traced steps done acts_of olds mids old
  stands = filling.stands

  abbrev span : ℕ
  span = span_of traced

  abbrev whole : Inputs → ℕ → State
  whole inputs k = lockstep core (start core inputs.good) k

  over_is : ends span steps (suc done) ≡ after_rounds span steps (suc done)
  over_is = round_ends span steps (suc done) filling.is

  module _ (inputs : Inputs) (can : MayCome core (queue_at old) stands.taken inputs) where
    -- no stream blocks the round
    now_unblocked : blocking core inputs.good (is_bad inputs) span steps (suc done) ≡ None
    now_unblocked = nothing_blocks core inputs.good (is_bad inputs) span steps (suc done)
        (λ n within. goes_on core run traced steps done acts_of olds mids old stands inputs can filling.is n want within filling.wanted
        (λ stream there. filling.begun n stream within there))

    filled : IsFilled core (length_of span steps (suc done)) (later_of inputs stands.fed) (state_of old)
    filled =
        let p = stands.after.piece inputs can in
        let begin : (n : ℕ) (stream : StreamC) → slice_get core.nodes n ≡ Some (From stream) → MayBegin core (queue_at old) want (state_of old) n =
        λ n stream there. filling.begun n stream (slice_get_within core.nodes n (From stream) there) there in
        subst (λ k. IsFilled core k (later_of inputs stands.fed) (state_of old)) filling.wanted
        (is_filled core run.names (queue_at old) stands.taken stands.fed stands.after.read inputs can want (after_rounds span steps done) (state_of old) p.0 p.1 begin)

  all_unblocked : AreUnblocked core span steps (queue_at old) stands.taken (suc done)
  all_unblocked inputs can round least most = elim (earlier_or_now round done most) [
    | inl less ↦ stands.after.unblocked inputs can round least less
    | inr same ↦ ap (λ r. blocking core inputs.good (is_bad inputs) span steps r) same ∙ now_unblocked inputs can
  ]

  abbrev over : State
  over = lockstep core (state_of old) (length_of span steps (suc done))

  -- the round leads to the piece at its end
  piece_over : IsPieceAt core (queue_at old) over stands.taken stands.fed (after_rounds span steps (suc done))
  piece_over inputs can =
      let p = stands.after.piece inputs can in
      (p.0, round_piece core inputs.good span steps done p.0 (later_of inputs stands.fed) (state_of old) p.1 (filled inputs can))

  -- what was taken is what the run has gained
  gained_now : (inputs : Inputs) → MayCome core (queue_at old) stands.taken inputs → (n : ℕ) (node : NodeC) → slice_get core.nodes n ≡ Some node
      → gained (whole inputs (begins span (suc done))) (whole inputs (ends span steps (suc done))) n ≡ (part_of over n).taken
  gained_now inputs can n node there =
      let p = stands.after.piece inputs can in
      ap (λ k. gained (whole inputs k) (whole inputs (ends span steps (suc done))) n) (begun core run traced steps done acts_of olds mids old stands inputs can filling.is)
      ∙ ap (λ k. gained (whole inputs (after_rounds span steps done)) (whole inputs k) n) over_is
      ∙ round_gained core inputs.good span steps done p.0 (later_of inputs stands.fed) (state_of old) p.1 (filled inputs can) n node there (stands.after.cleared n node there)

  wires_are : (inputs : Inputs) → MayCome core (queue_at old) stands.taken inputs → (b : Bool) → b ≡ traced
      → wires_now core b (suc done) over ≡ trace_writes core inputs.good b steps (suc done)
  wires_are inputs can false is = refl
  wires_are inputs can true is =
      let p = piece_over inputs can in
      let last : after_rounds span steps (suc done) ≡ ends (span_of true) steps (suc done) =
      sym over_is ∙ ap (λ b. ends (span_of b) steps (suc done)) (sym is) in
      ap (λ lines. told (step_line (suc done) ∷ lines))
      (same_wires core p.0 (later_of inputs stands.fed) over (whole inputs (after_rounds span steps (suc done))) p.1
      ∙ ap (λ k. wire_lines core (on_wire (whole inputs k))) last)

  -- what is written are the lines of the round
  written_now : (inputs : Inputs) → MayCome core (queue_at old) stands.taken inputs
      → told_now core traced (suc done) over ≡ round_writes core inputs.good traced steps (suc done)
  written_now inputs can =
      let lines : writes_of_nodes core (λ n. (part_of over n).taken) ≡ gained_writes core inputs.good span steps (suc done) =
      sym (same_writes core (gained (whole inputs (begins span (suc done))) (whole inputs (ends span steps (suc done)))) (λ n. (part_of over n).taken) (gained_now inputs can)) in
      ap (λ (pairs : Pairs). pairs ++ wires_now core traced (suc done) over) lines
      ∙ ap (λ (pairs : Pairs). gained_writes core inputs.good span steps (suc done) ++ pairs) (wires_are inputs can traced refl)

  acts_are : (inputs : Inputs) → MayCome core (queue_at old) stands.taken inputs
      → stands.acts ++ write_each (told_now core traced (suc done) over) ≡ rounds_acts core inputs.good traced steps (suc done)
  acts_are inputs can =
      ap (λ (acts : List Act). acts ++ write_each (told_now core traced (suc done) over)) (stands.are inputs can)
      ∙ append_assoc (rounds_acts core inputs.good traced steps done) (reading core inputs.good traced steps (suc done)) (write_each (told_now core traced (suc done) over))
      ∙ ap (λ pairs. rounds_acts core inputs.good traced steps done ++ (reading core inputs.good traced steps (suc done) ++ write_each pairs)) (written_now inputs can)
      ∙ sym (rounds_more core inputs.good traced steps done)

  module _ (new : Engine) (news : List PortView) (supersteps : ℕ) (count : supersteps ≡ length_of span steps (suc done))
      (result : Result (Unit {0}) Failed)
      (did : Ends never [] (write_each (told_now core traced (suc done) (lockstep core (state_of old) supersteps))) [] mids news result) where
    here : lockstep core (state_of old) supersteps ≡ over
    here = ap (lockstep core (state_of old)) count

    -- a write failed
    pub round_failed : (failed : Failed) → result ≡ Err failed → FailsInRounds core traced steps olds news
    round_failed failed is =
        let coming = comes core run traced steps done acts_of olds mids old stands in
        let can = may core run traced steps done acts_of olds mids old stands in
        let fails : Fails never [] (write_each (told_now core traced (suc done) over)) mids news =
        subst (λ s. Fails never [] (write_each (told_now core traced (suc done) s)) mids news) here
        (subst (λ r. Ends never [] (write_each (told_now core traced (suc done) (lockstep core (state_of old) supersteps))) [] mids news r) is did) in
        let first = unblocked_first core coming.inputs traced steps (suc done) (round_counted span steps (some_span traced) (suc done) filling.is)
        (λ round least most. all_unblocked coming.inputs can round least most) in
        let acts : List Act = stands.acts ++ write_each (told_now core traced (suc done) over) in
        let begins : Fails (run_few core) [] acts olds news =
        Fails-on (run_few core) [] stands.taken stands.acts (write_each (told_now core traced (suc done) over)) olds mids news stands.made
        (Fails-any (run_few core) stands.taken (write_each (told_now core traced (suc done) over)) mids news fails) in
        let all : made_acts core coming.inputs traced steps ≡ acts ++ first.0 =
        first.1 ∙ ap (λ (front : List Act). front ++ first.0) (sym (acts_are coming.inputs can)) in
        record {
          comes = coming;
          fails = subst (λ every. Fails (run_few core) [] every olds news) (sym all) (Fails-stop (run_few core) [] acts first.0 olds news begins);
        }

    module _ (is : result ≡ Ok tt) (new_core : core_of new ≡ core) (new_span : room_of new ≡ room_of old) (queues : (n : ℕ) → queue_at new n ≡ queue_at old n)
        (grow : PeaksGrow old supersteps new) (clear : Clears core (lockstep core (state_of old) supersteps) (state_of new)) where
      clears : Clears core over (state_of new)
      clears = subst (λ s. Clears core s (state_of new)) here clear

      cleared_over : IsCleared core (state_of new)
      cleared_over n node there = elim (output_or_not core n) [
        | inl output ↦ clears.none n output
        | inr other ↦ clears.others n other ∙ others_take_nothing core n node there (state_of old) (length_of span steps (suc done)) other ∙ stands.after.cleared n node there
      ]

      made_now : Made (stands.acts ++ write_each (told_now core traced (suc done) over)) stands.taken olds news
      made_now =
          let made : Made (write_each (told_now core traced (suc done) over)) [] mids news =
          subst (λ s. Made (write_each (told_now core traced (suc done) s)) [] mids news) here
          (subst (λ r. Ends never [] (write_each (told_now core traced (suc done) (lockstep core (state_of old) supersteps))) [] mids news r) is did) in
          subst (λ pairs. Made (stands.acts ++ write_each (told_now core traced (suc done) over)) pairs olds news) (append-nil stands.taken)
          (Made-on stands.acts (write_each (told_now core traced (suc done) over)) stands.taken [] olds mids news stands.made made)

      peak_now : (inputs : Inputs) → MayCome core (queue_at old) stands.taken inputs → (n : ℕ) (node : NodeC) → slice_get core.nodes n ≡ Some node
          → IsPeak core inputs.good (after_rounds span steps (suc done)) new n
      peak_now inputs can n node there =
          let p = stands.after.piece inputs can in
          let was = stands.peaks inputs can n node there in
          let k : ℕ = length_of span steps (suc done) in
          let same : peaks (core_of old) (state_of old) supersteps n ≡ peaks core (whole inputs (after_rounds span steps done)) k n =
          ap (λ c. peaks c (state_of old) supersteps n) same_core ∙ ap (λ j. peaks core (state_of old) j n) count
          ∙ peaks_alike core p.0 (later_of inputs stands.fed) (state_of old) (whole inputs (after_rounds span steps done)) p.1 n node there k (filled inputs can) in
          record {
            heap = peaks_together core (start core inputs.good) (after_rounds span steps done) k (after_rounds span steps (suc done)) n (heap_peak_at new n) (heap_peak_at old n)
                (λ cost. cost.heap) (made_more span steps done) (λ x y. refl) was.heap
                (grow.heap n ∙ ap (λ (cost : Cost). max (heap_peak_at old n) cost.heap) same);
            stack = peaks_together core (start core inputs.good) (after_rounds span steps done) k (after_rounds span steps (suc done)) n (stack_peak_at new n) (stack_peak_at old n)
                (λ cost. cost.stack) (made_more span steps done) (λ x y. refl) was.stack
                (grow.stack n ∙ ap (λ (cost : Cost). max (stack_peak_at old n) cost.stack) same);
          }

      after_over : IsAfter core span steps (suc done) (queue_at old) (state_of new) stands.taken stands.fed
      after_over = record {
        read = stands.after.read;
        piece = λ inputs can. (let p = piece_over inputs can in clears.pieces p.0 _ _ p.1);
        cleared = cleared_over;
        unblocked = all_unblocked;
      }

      -- where the run stands once the lines of the round are written
      pub round_stands : StandsAfter core traced steps (suc done) olds news new
      round_stands =
          let qs = same_queues old new queues in
          record {
            acts = stands.acts ++ write_each (told_now core traced (suc done) over);
            taken = stands.taken;
            fed = stands.fed;
            is_core = new_core;
            is_span = new_span ∙ stands.is_span;
            parts = clears.parts;
            made = made_now;
            told = subst (λ q. EndsAreTold core q stands.taken olds) qs stands.told;
            after = subst (λ q. IsAfter core span steps (suc done) q (state_of new) stands.taken stands.fed) qs after_over;
            peaks = subst (λ q. (inputs : Inputs) → MayCome core q stands.taken inputs → (n : ℕ) (node : NodeC) → slice_get core.nodes n ≡ Some node
                → IsPeak core inputs.good (after_rounds span steps (suc done)) new n) qs peak_now;
            are = subst (λ q. (inputs : Inputs) → MayCome core q stands.taken inputs
                → stands.acts ++ write_each (told_now core traced (suc done) over) ≡ rounds_acts core inputs.good traced steps (suc done)) qs acts_are;
          }
