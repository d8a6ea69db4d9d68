-- Output streams that are written and cleared one after another.
use Rattle.std.proofs.Common.{◌≡◌, ◌⊎◌, ℕ, zero, suc, ◌+◌, ◌<◌, ◌≤◌, List, [], ◌∷◌, ◌++◌, length, get_or, Option, None, Some, slice_get, slice_set, Result, Ok, Err, OnOk, refl, ap, sym, ◌∙◌, subst, inl, inr, arith}
use Rattle.std.proofs.lemmas.List.{map-append}
use Rattle.std.proofs.lemmas.Option.{slice_get_within, slice_get-get_or}
use Rattle.std.specs.List.{flat_map, range_with_len}
use Rattle.hume_base.specs.declared.types.Value.{Value}
use Rattle.hume_model.specs.declared.core_tree.NodeC.{NodeC}
use Rattle.hume_model.specs.declared.core_tree.NodeC.TheVariants.{Rules, From, To}
use Rattle.hume_model.specs.declared.core_tree.StreamC.{StreamC}
use Rattle.hume_model.specs.declared.core_tree.Core.{Core}
use Rattle.hume_net.specs.declared.state.State.{State}
use Rattle.hume_net.specs.Nodes.{IsOutput, IsOutputStream}
use Rattle.hume_net.specs.Parts.{IsStateOf}
use Rattle.hume_net.specs.Sides.{part_of}
use Rattle.hume_net.specs.rounds.Pieces.{IsPieceOf, listed}
use Rattle.hume_net.proofs.rounds_lemmas.OneNode.{cleared_one}
use Rattle.hume_ports.specs.declared.port.Failed.{Failed}
use Rattle.hume_ports.specs.Port.{PortView}
use Rattle.hume_ports.specs.Ports.{names}
use Rattle.hume_ports.specs.Delivery.{Pairs}
use Rattle.hume_streams.specs.places.LineWrites.{line_writes}
use Rattle.hume_text.specs.declared.chunk.Chunk.{Chunk}
use Rattle.hume_text.specs.Chunks.{room_of}
use Rattle.port_acts.specs.Acts.{Act, write_each, writes}
use Rattle.port_acts.specs.Ends.{Ends, Fails, Made, never}
use Rattle.port_acts.specs.Places.{IsPlaceOf}
use Rattle.port_acts.proofs.Failing.{Fails-on, Fails-stop}
use Rattle.port_acts.proofs.Making.{Made-on, Made-start}
use Rattle.phase_workers.specs.Engines.{EngineView as Engine}
use Rattle.phase_workers.specs.Engines.{core_of, queue_at, span_of, state_of, ArePeaksKept}
use Rattle.phase_workers.specs.StreamTypes.{type_at}
use Rattle.run_rounds.specs.Streams.{ArePlacesOf}
use Rattle.run_rounds.specs.Writes.{writes_of_node, writes_of_nodes}
use Rattle.run_rounds.specs.inner.Clearing.{Clears, ClearsNode}
use Rattle.run_rounds.proofs.Fed.{same_or_other}
use Rattle.run_rounds.proofs.FillingInputs.{before_or_last}
use Rattle.run_rounds.proofs.Ranges.{flat_more, flat_within}
use Rattle.run_rounds.proofs.Standings.{item_at, length_set, parts_of}
use Rattle.run_rounds.proofs.Stepping.{set_elsewhere}

set_here : (lists : List (List Value)) (n : ℕ) (list : List Value) → n < length lists → listed (slice_set lists n list) n ≡ list
set_here [] n list within = absurd (omega (arith, within))
set_here (first ∷ lists) zero list within = refl
set_here (first ∷ lists) (suc n) list within = set_here lists n list (omega (arith, within))

-- the output streams of numbers below the count were cleared
pub record ClearsBelow (core : Core) (count : ℕ) (before after : State) : Type 0 where
  pub parts : IsStateOf core after
  pub pieces : (earlier later : ℕ → List Value) (whole : State) → IsPieceOf core earlier later before whole
      → (gone : ℕ → List Value) × IsPieceOf core gone later after whole
  pub none : (n : ℕ) → n < count → IsOutputStream core n → (part_of after n).taken ≡ []
  pub others : (n : ℕ) → (IsOutputStream core n → ⊥) → (part_of after n).taken ≡ (part_of before n).taken
  pub later : (n : ℕ) → count ≤ n → (part_of after n).taken ≡ (part_of before n).taken

pub clears_none : (core : Core) (state : State) → IsStateOf core state → ClearsBelow core 0 state state
clears_none core state parts = record {
  parts = parts;
  pieces = λ earlier later whole it. (earlier, it);
  none = λ n less. absurd (omega (arith, less));
  others = λ n other. refl;
  later = λ n past. refl;
}

-- the next one is cleared
pub clears_output : (core : Core) (count : ℕ) (before after : State) → count < length core.nodes → IsOutputStream core count
    → ClearsBelow core count before after → ClearsBelow core (count + 1) before (record after { taken = slice_set after.taken count [] })
clears_output core count before after within output it =
    let item = item_at core.nodes count within in
    let parts = it.parts in
    record {
      parts = record {
        wires = parts.wires;
        pending = parts.pending;
        orders = parts.orders;
        coming = parts.coming;
        taken = length_set after.taken count [] ∙ parts.taken;
      };
      pieces = λ earlier later whole piece. (
          let p = it.pieces earlier later whole piece in
          (_, cleared_one core p.0 later after whole (parts_of core after parts) count item.0 item.1 p.1));
      none = λ n less is. elim (same_or_other n count) [
        | inl same ↦ subst (λ k. listed (slice_set after.taken count []) k ≡ []) (sym same)
            (set_here after.taken count [] (subst (λ k. count < k) (sym parts.taken) within))
        | inr differ ↦ set_elsewhere after.taken count n [] differ ∙ elim (before_or_last n count less) [
          | inl l ↦ it.none n l is
          | inr e ↦ absurd (differ e)
        ]
      ];
      others = λ n other. (
          let differ : n ≡ count → ⊥ = λ same. other (subst (IsOutputStream core) (sym same) output) in
          set_elsewhere after.taken count n [] differ ∙ it.others n other);
      later = λ n past. set_elsewhere after.taken count n [] (λ same. omega (arith, past, same)) ∙ it.later n (omega (arith, past));
    }

-- the next one is no output stream
pub clears_other : (core : Core) (count : ℕ) (before after : State) → (IsOutputStream core count → ⊥) → ClearsBelow core count before after
    → ClearsBelow core (count + 1) before after
clears_other core count before after other it = record {
  parts = it.parts;
  pieces = it.pieces;
  none = λ n less is. elim (before_or_last n count less) [
    | inl l ↦ it.none n l is
    | inr e ↦ absurd (other (subst (IsOutputStream core) e is))
  ];
  others = it.others;
  later = λ n past. it.later n (omega (arith, past));
}

output_within : (o : Option NodeC) (n : ℕ) (core : Core) → slice_get core.nodes n ≡ o → IsOutput o → n < length core.nodes
output_within (Some node) n core is output = slice_get_within core.nodes n node is
output_within None n core is output = absurd output

-- all of them were
pub clears_all : (core : Core) (count : ℕ) (before after : State) → length core.nodes ≤ count → ClearsBelow core count before after → Clears core before after
clears_all core count before after past it = record {
  parts = it.parts;
  pieces = it.pieces;
  none = λ n is. (let within = output_within (slice_get core.nodes n) n core refl is in it.none n (omega (arith, within, past)) is);
  others = it.others;
}

-- writes of one list and then of another
pub each_append : (first second : Pairs) → write_each (first ++ second) ≡ write_each first ++ write_each second
each_append first second = map-append (λ pair. writes pair.0 pair.1) first second

pub output_or_not : (core : Core) (n : ℕ) → IsOutputStream core n ⊎ (IsOutputStream core n → ⊥)
output_or_not core n = by_node (slice_get core.nodes n) refl
  where
    by_node : (o : Option NodeC) → slice_get core.nodes n ≡ o → IsOutputStream core n ⊎ (IsOutputStream core n → ⊥)
    by_node (Some (To stream)) is = inl (subst IsOutput (sym is) tt)
    by_node (Some (Rules b)) is = inr (subst (λ o. IsOutput o → ⊥) (sym is) (λ never. never))
    by_node (Some (From stream)) is = inr (subst (λ o. IsOutput o → ⊥) (sym is) (λ never. never))
    by_node None is = inr (subst (λ o. IsOutput o → ⊥) (sym is) (λ never. never))

-- one node

pub output_there : (core : Core) (n : ℕ) → IsOutputStream core n → (stream : StreamC) × (slice_get core.nodes n ≡ Some (To stream))
output_there core n output = by_node (slice_get core.nodes n) refl output
  where
    by_node : (o : Option NodeC) → slice_get core.nodes n ≡ o → IsOutput o → (stream : StreamC) × (slice_get core.nodes n ≡ Some (To stream))
    by_node (Some (To stream)) is output = (stream, is)
    by_node (Some (Rules b)) is output = absurd output
    by_node (Some (From stream)) is output = absurd output
    by_node None is output = absurd output

nothing_written : (core : Core) (n : ℕ) (o : Option NodeC) (values : List Value) → (IsOutput o → ⊥) → writes_of_node core n o values ≡ []
nothing_written core n None values other = refl
nothing_written core n (Some (Rules b)) values other = refl
nothing_written core n (Some (From stream)) values other = refl
nothing_written core n (Some (To stream)) values other = absurd (other tt)

-- a node that is no output stream writes nothing
pub other_made : (core : Core) (n : ℕ) (values : List Value) (ports : List PortView) → (IsOutputStream core n → ⊥)
    → Made (write_each (writes_of_node core n (slice_get core.nodes n) values)) [] ports ports
other_made core n values ports other =
    subst (λ pairs. Made (write_each pairs) [] ports ports) (sym (nothing_written core n (slice_get core.nodes n) values other)) (Made-start ports)

-- an output stream writes its lines
pub output_ends : (core : Core) (n : ℕ) (stream : StreamC) (values : List Value) (olds news : List PortView) (result : Result (Unit {0}) Failed)
    → slice_get core.nodes n ≡ Some (To stream) → Ends never [] (write_each (line_writes stream.port core.types (type_at core n) values)) [] olds news result
    → Ends never [] (write_each (writes_of_node core n (slice_get core.nodes n) values)) [] olds news result
output_ends core n stream values olds news result is ends =
    subst (λ o. Ends never [] (write_each (writes_of_node core n o values)) [] olds news result) (sym is) ends

-- The output streams below the count were written and cleared.
pub record Draining (before ports : List PortView) (first engine : Engine) (old chunk : Chunk) (count : ℕ) : Type 0 where
  pub is_core : core_of engine ≡ core_of first
  pub is_span : span_of engine ≡ span_of first
  pub queues : (n : ℕ) → queue_at engine n ≡ queue_at first n
  pub peaks : ArePeaksKept first engine
  pub same_names : names ports ≡ names before
  pub room : room_of chunk ≡ room_of old
  pub most : count ≤ length (core_of first).nodes
  pub made : Made (write_each (flat_map (λ n. writes_of_node (core_of first) n (slice_get (core_of first).nodes n) (part_of (state_of first) n).taken) (range_with_len 0 count))) [] before ports
  pub clears : ClearsBelow (core_of first) count (state_of first) (state_of engine)

pub draining_none : (ports : List PortView) (engine : Engine) (chunk : Chunk) → IsStateOf (core_of engine) (state_of engine)
    → Draining ports ports engine engine chunk chunk 0
draining_none ports engine chunk parts = record {
  is_core = refl;
  is_span = refl;
  queues = λ n. refl;
  peaks = record { heap = λ n. refl; stack = λ n. refl };
  same_names = refl;
  room = refl;
  most = omega arith;
  made = Made-start ports;
  clears = clears_none (core_of engine) (state_of engine) parts;
}

module _ (before mids news : List PortView) (first engine new : Engine) (old mid chunk : Chunk) (count : ℕ) (it : Draining before mids first engine old mid count)
    (within : count < length (core_of first).nodes) where
  abbrev core : Core
  core = core_of first

  abbrev Of : ℕ → Pairs
  Of n = writes_of_node core n (slice_get core.nodes n) (part_of (state_of first) n).taken

  abbrev Done : ℕ → Pairs
  Done k = flat_map Of (range_with_len 0 k)

  -- what the node writes is what it has taken at first
  same_writes : writes_of_node (core_of engine) count (slice_get (core_of engine).nodes count) (part_of (state_of engine) count).taken ≡ Of count
  same_writes =
      ap (λ (c : Core). writes_of_node c count (slice_get c.nodes count) (part_of (state_of engine) count).taken) it.is_core
      ∙ ap (writes_of_node core count (slice_get core.nodes count)) (it.clears.later count (omega arith))

  more : write_each (Done (count + 1)) ≡ write_each (Done count) ++ write_each (Of count)
  more =
      let next : count + 1 ≡ suc count = omega arith in
      let here : 0 + count ≡ count = omega arith in
      ap (λ k. write_each (Done k)) next ∙ ap write_each (flat_more Of 0 count ∙ ap (λ k. Done count ++ Of k) here) ∙ each_append (Done count) (Of count)

  abbrev NodeWrites : Result (Unit {0}) Failed → Type 0
  NodeWrites result = Ends never [] (write_each (writes_of_node (core_of engine) count (slice_get (core_of engine).nodes count) (part_of (state_of engine) count).taken)) [] mids news result

  cleared_next : ClearsNode (core_of engine) count (state_of engine) (state_of new) → ClearsBelow core (count + 1) (state_of first) (state_of new)
  cleared_next clears = elim (output_or_not core count) [
    | inl output ↦ subst (ClearsBelow core (count + 1) (state_of first))
        (sym (clears.output (subst (λ c. IsOutputStream c count) (sym it.is_core) output)))
        (clears_output core count (state_of first) (state_of engine) within output it.clears)
    | inr other ↦ subst (ClearsBelow core (count + 1) (state_of first))
        (sym (clears.other (λ is. other (subst (λ c. IsOutputStream c count) it.is_core is))))
        (clears_other core count (state_of first) (state_of engine) other it.clears)
  ]

  pub draining_next : (result : Result (Unit {0}) Failed) → result ≡ Ok tt → NodeWrites result → core_of new ≡ core_of engine → span_of new ≡ span_of engine
      → ((n : ℕ) → queue_at new n ≡ queue_at engine n) → ArePeaksKept engine new → names news ≡ names mids → room_of chunk ≡ room_of mid
      → OnOk result (ClearsNode (core_of engine) count (state_of engine) (state_of new)) → Draining before news first new old chunk (count + 1)
  draining_next (Ok done) is ends same_core same_span queues peaks same room clears = record {
    is_core = same_core ∙ it.is_core;
    is_span = same_span ∙ it.is_span;
    queues = λ n. queues n ∙ it.queues n;
    peaks = record { heap = λ n. peaks.heap n ∙ it.peaks.heap n; stack = λ n. peaks.stack n ∙ it.peaks.stack n };
    same_names = same ∙ it.same_names;
    room = room ∙ it.room;
    most = omega (arith, within);
    made = subst (λ acts. Made acts [] before news) (sym more)
        (Made-on (write_each (Done count)) (write_each (Of count)) [] [] before mids news it.made
        (subst (λ pairs. Made (write_each pairs) [] mids news) same_writes ends));
    clears = cleared_next clears;
  }
  draining_next (Err failed) is ends same_core same_span queues peaks same room clears = cc

  -- all lines begin with these
  all_begin : (rest : Pairs) × (Done (length core.nodes) ≡ Done (count + 1) ++ rest)
  all_begin = flat_within Of 0 (count + 1) (length core.nodes) (omega (arith, within))

  pub draining_failed : (result : Result (Unit {0}) Failed) (failed : Failed) → result ≡ Err failed → NodeWrites result
      → Fails never [] (write_each (writes_of_nodes core (λ n. (part_of (state_of first) n).taken))) before news
  draining_failed (Ok done) failed is ends = cc
  draining_failed (Err other) failed is ends =
      let here : Fails never [] (write_each (Done count) ++ write_each (Of count)) before news =
      Fails-on never [] [] (write_each (Done count)) (write_each (Of count)) before mids news it.made
      (subst (λ pairs. Fails never [] (write_each pairs) mids news) same_writes ends) in
      let whole : write_each (Done (length core.nodes)) ≡ (write_each (Done count) ++ write_each (Of count)) ++ write_each all_begin.0 =
      ap write_each all_begin.1 ∙ each_append (Done (count + 1)) all_begin.0 ∙ ap (λ (acts : List Act). acts ++ write_each all_begin.0) more in
      subst (λ acts. Fails never [] acts before news) (sym whole)
      (Fails-stop never [] (write_each (Done count) ++ write_each (Of count)) (write_each all_begin.0) before news here)

-- all were written and cleared
module _ (before mids : List PortView) (first engine : Engine) (old mid : Chunk) (count : ℕ) (it : Draining before mids first engine old mid count)
    (past : length (core_of first).nodes ≤ count) where
  pub draining_made : Made (write_each (writes_of_nodes (core_of first) (λ n. (part_of (state_of first) n).taken))) [] before mids
  draining_made =
      let most = it.most in
      let all : count ≡ length (core_of first).nodes = omega (arith, past, most) in
      subst (λ k. Made (write_each (flat_map (λ n. writes_of_node (core_of first) n (slice_get (core_of first).nodes n) (part_of (state_of first) n).taken) (range_with_len 0 k))) [] before mids)
      all it.made

  pub draining_cleared : Clears (core_of first) (state_of first) (state_of engine)
  draining_cleared = clears_all (core_of first) count (state_of first) (state_of engine) past it.clears

-- the place of an output stream's port
pub place_of_output : (before mids : List PortView) (first engine : Engine) (old mid : Chunk) (count : ℕ) → Draining before mids first engine old mid count
    → (places : List ℕ) → ArePlacesOf (core_of first) (names before) places → count < length places → (stream : StreamC)
    → slice_get (core_of engine).nodes count ≡ Some (To stream) → IsPlaceOf stream.port (names mids) (get_or places count 0)
place_of_output before mids first engine old mid count it places are within stream is =
    let there = subst (λ (c : Core). slice_get c.nodes count ≡ Some (To stream)) it.is_core is in
    subst (λ ns. IsPlaceOf stream.port ns (get_or places count 0)) (sym it.same_names)
    (are.each count (get_or places count 0) (To stream) stream there refl (slice_get-get_or places count 0 within))

pub node_kept : (its : Core) (n : ℕ) (state : State) → (IsOutputStream its n → ⊥) → ClearsNode its n state state
node_kept its n state other = record { output = λ is. absurd (other is); other = λ none. refl }

pub node_cleared : (its : Core) (n : ℕ) (before after : State) (result : Result (Unit {0}) Failed) → IsOutputStream its n
    → OnOk result (after ≡ record before { taken = slice_set before.taken n [] }) → OnOk result (ClearsNode its n before after)
node_cleared its n before after (Ok done) is cleared = record { output = λ output. cleared; other = λ none. absurd (none is) }
node_cleared its n before after (Err failed) is cleared = tt
