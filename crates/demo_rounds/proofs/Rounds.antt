-- Rounds of a demo: what output streams take is counted, and the whole run goes on.
use Rattle.std.proofs.Common.{◌≡◌, ℕ, suc, ◌+◌, ◌-◌, ◌*◌, ◌^◌, ◌<◌, ◌≤◌, min, List, [], ◌++◌, length, replicate, refl, ap, sym, ◌∙◌, subst, inl, arith, append-nil}
use Rattle.std.proofs.lemmas.List.{get_or-replicate, length-replicate}
use Rattle.std.proofs.lemmas.List.FromFn.{length-map-range_with_len}
use Rattle.hume_base.specs.declared.types.Value.{Value}
use Rattle.hume_model.specs.declared.core_tree.NodeC.TheVariants.{To}
use Rattle.hume_model.specs.declared.core_tree.Core.{Core}
use Rattle.hume_net.specs.declared.state.Part.{Part}
use Rattle.hume_net.specs.declared.state.State.{State}
use Rattle.hume_net.specs.Lockstep.{lockstep}
use Rattle.hume_net.specs.Nodes.{IsOutputStream}
use Rattle.hume_net.specs.Parts.{IsStateOf}
use Rattle.hume_net.specs.Sides.{part_of}
use Rattle.hume_net.specs.Start.{start, no_values}
use Rattle.hume_net.specs.rounds.Pieces.{IsPieceOf, nothing, taken_in}
use Rattle.hume_net.specs.rounds.Rounds.{IsRound, begins, length_of, made, rounds_of}
use Rattle.hume_net.proofs.StatePlaces.{lockstep_places, lockstep_state}
use Rattle.hume_net.proofs.rounds_lemmas.Clearing.{none_at}
use Rattle.hume_net.proofs.rounds_lemmas.RoundCounts.{all_made, counted_round, none_made}
use Rattle.hume_net.proofs.rounds_lemmas.Rounds.{round_piece}
use Rattle.stream_totals.specs.declared.total.Total.{Total}
use Rattle.stream_totals.specs.Totals.{total_of_words}
use Rattle.phase_workers.specs.Engines.{EngineView as Engine}
use Rattle.phase_workers.specs.Engines.{core_of, span_of, state_of}
use Rattle.demo_rounds.specs.declared.counting.TheConstants.{SPAN}
use Rattle.demo_rounds.specs.Chains.{chain_lines, demo_lines, total_after}
use Rattle.demo_rounds.specs.inner.Counted.{AreTotals, Clears, Counted, total_at}
use Rattle.demo_rounds.proofs.NodeTotals.{Its, output_there, output_within}
use Rattle.demo_rounds.proofs.ChainsTold.{same_chains}

lockstep_none : (core : Core) (state : State) (k : ℕ) → k ≡ 0 → lockstep core state k ≡ state
unfolding lockstep
lockstep_none core state k none = ap (lockstep core state) none

-- the state before the first superstep has a part for each node
start_parts : (core : Core) → IsStateOf core (start core (no_values core))
start_parts core =
    let places = lockstep_places core (no_values core) (length-map-range_with_len (λ n. []) 0 _) 0 in
    subst (IsStateOf core) (lockstep_none core (start core (no_values core)) 0 refl) places.places

-- a state is a piece of itself
same_piece : (core : Core) (state : State) → IsPieceOf core nothing nothing state state
same_piece core state = record {
  wires = λ w wire found. refl;
  parts = λ n node is i. record {
    pending = (part_of state n).pending;
    order = (part_of state n).order;
    coming = sym (append-nil (part_of state n).coming) i;
    taken = (part_of state n).taken;
  };
}

-- the whole run, to which nothing comes
abbrev whole : Core → ℕ → State
whole core steps = lockstep core (start core (no_values core)) steps

module _ (core : Core) (steps : ℕ) (totals : List Total) (engine : Engine) (is_core : core_of engine ≡ core) (is_span : span_of engine ≡ SPAN)
    (state : state_of engine ≡ start core (no_values core)) (none : totals ≡ replicate (length core.nodes) (total_of_words [])) where
  begun : whole core (made SPAN steps 0) ≡ state_of engine
  begun = lockstep_none core (start core (no_values core)) (made SPAN steps 0) (none_made SPAN steps) ∙ sym state

  none_there : (n : ℕ) → IsOutputStream core n → total_at totals n ≡ Its core n []
  none_there n output =
      ap (λ (all : List Total). total_at all n) none
      ∙ get_or-replicate (length core.nodes) n (total_of_words []) (total_of_words []) (output_within core n output)

  -- before the first round
  pub counted_first : Counted core steps 0 totals engine
  counted_first = record {
    is_core = is_core;
    is_span = is_span;
    parts = subst (IsStateOf core) (sym state) (start_parts core);
    cleared = λ n output. (
        let there = output_there core n output in
        ap (λ (s : State). (part_of s n).taken) state ∙ none_at core n (To there.0) there.1);
    earlier = nothing;
    piece = subst (λ s. IsPieceOf core nothing nothing (state_of engine) s) (sym begun) (same_piece core (state_of engine));
    counted = record {
      count = ap (λ (all : List Total). length all) none ∙ length-replicate (length core.nodes) (total_of_words []);
      each = none_there;
      few = λ n output. omega arith;
    };
  }

-- a round for each that is counted
pub next_round : (steps done : ℕ) → done < rounds_of SPAN steps → IsRound SPAN steps (suc done)
next_round steps done less = counted_round SPAN steps (omega arith) (suc done) (omega arith) (omega (arith, less))

-- how many supersteps it has
pub supersteps_are : (steps done count : ℕ) → count ≡ min (steps - done * SPAN) SPAN → count ≡ length_of SPAN steps (suc done)
supersteps_are steps done count is =
    let begin : begins SPAN (suc done) ≡ done * SPAN = (let e : suc done - 1 ≡ done = omega arith in ap (λ k. k * SPAN) e) in
    omega (arith, is, begin)

module _ (core : Core) (steps done : ℕ) (totals : List Total) (engine : Engine) (it : Counted core steps done totals engine)
    (is : IsRound SPAN steps (suc done)) (small : steps < 2 ^ 32) where
  few : done * 2 ^ 32 ≤ 2 ^ 61
  few =
      let less : begins SPAN (suc done) < steps = is.begins_within in
      omega (arith, less, small)

  pub cleared_before : (n : ℕ) → IsOutputStream (core_of engine) n → (part_of (state_of engine) n).taken ≡ []
  cleared_before n output = it.cleared n (subst (λ c. IsOutputStream c n) it.is_core output)

  abbrev over : State
  over = lockstep core (state_of engine) (length_of SPAN steps (suc done))

  piece_over : IsPieceOf core it.earlier nothing over (whole core (made SPAN steps (suc done)))
  piece_over = round_piece core (no_values core) SPAN steps done it.earlier nothing (state_of engine) it.piece (λ n input. inl refl)

  module _ (rounded : Engine) (supersteps : ℕ) (round_core : core_of rounded ≡ core_of engine)
      (round_state : state_of rounded ≡ lockstep (core_of engine) (state_of engine) supersteps) where
    core_then : core_of rounded ≡ core
    core_then = round_core ∙ it.is_core

    state_then : state_of rounded ≡ lockstep core (state_of engine) supersteps
    state_then = round_state ∙ ap (λ c. lockstep c (state_of engine) supersteps) it.is_core

    pub parts_then : IsStateOf (core_of rounded) (state_of rounded)
    parts_then =
        subst (λ c. IsStateOf c (state_of rounded)) (sym core_then)
        (subst (IsStateOf core) (sym state_then) (lockstep_state core (state_of engine) it.parts supersteps))

    -- what output streams take in the round can be counted
    pub counts : (values : ℕ → List Value) × AreTotals (core_of rounded) values (2 ^ 61) totals
    counts = (
      it.earlier,
      subst (λ c. AreTotals c it.earlier (2 ^ 61) totals) (sym core_then) (record {
        count = it.counted.count;
        each = it.counted.each;
        few = λ n output. (let f = it.counted.few n output in let g = few in omega (arith, f, g));
      }),
    )

    module _ (new : Engine) (others : List Total) (count : supersteps ≡ length_of SPAN steps (suc done))
        (round_span : span_of rounded ≡ span_of engine) (new_core : core_of new ≡ core_of rounded) (new_span : span_of new ≡ span_of rounded)
        (clear : Clears (core_of rounded) (state_of rounded) (state_of new))
        (more : (values : ℕ → List Value) (most : ℕ) → most ≤ 2 ^ 61 → AreTotals (core_of rounded) values most totals
        → AreTotals (core_of rounded) (λ n. values n ++ taken_in (state_of rounded) n) (most + 2 ^ 32) others) where
      over_then : state_of rounded ≡ over
      over_then = state_then ∙ ap (lockstep core (state_of engine)) count

      clears : Clears core over (state_of new)
      clears = subst (λ s. Clears core s (state_of new)) over_then (subst (λ c. Clears c (state_of rounded) (state_of new)) core_then clear)

      abbrev gone : (values : ℕ → List Value) × IsPieceOf core values nothing (state_of new) (whole core (made SPAN steps (suc done)))
      gone = clears.pieces it.earlier nothing (whole core (made SPAN steps (suc done))) piece_over

      -- what is gone then was gone before, or taken in the round
      gone_is : (n : ℕ) → IsOutputStream core n → gone.0 n ≡ it.earlier n ++ taken_in over n
      gone_is n output =
          let there = output_there core n output in
          let before : (part_of (whole core (made SPAN steps (suc done))) n).taken ≡ it.earlier n ++ taken_in over n =
          ap (λ (p : Part). p.taken) (piece_over.parts n (To there.0) there.1) in
          let after : (part_of (whole core (made SPAN steps (suc done))) n).taken ≡ gone.0 n ++ taken_in (state_of new) n =
          ap (λ (p : Part). p.taken) (gone.1.parts n (To there.0) there.1) in
          sym (append-nil (gone.0 n)) ∙ ap (λ taken. gone.0 n ++ taken) (sym (clears.none n output)) ∙ sym after ∙ before

      joined : AreTotals core (λ n. it.earlier n ++ taken_in over n) (done * 2 ^ 32 + 2 ^ 32) others
      joined =
          subst (λ s. AreTotals core (λ n. it.earlier n ++ taken_in s n) (done * 2 ^ 32 + 2 ^ 32) others) over_then
          (subst (λ c. AreTotals c (λ n. it.earlier n ++ taken_in (state_of rounded) n) (done * 2 ^ 32 + 2 ^ 32) others) core_then
          (more it.earlier (done * 2 ^ 32) few (subst (λ c. AreTotals c it.earlier (done * 2 ^ 32) totals) (sym core_then) it.counted)))

      then_counted : Counted core steps (suc done) others new
      then_counted = record {
        is_core = new_core ∙ core_then;
        is_span = new_span ∙ round_span ∙ it.is_span;
        parts = clears.parts;
        cleared = clears.none;
        earlier = gone.0;
        piece = gone.1;
        counted = record {
          count = joined.count;
          each = λ n output. joined.each n output ∙ ap (Its core n) (sym (gone_is n output));
          few = λ n output. (
              let f = joined.few n output in
              let same : length (gone.0 n) ≡ length (it.earlier n ++ taken_in over n) = ap (λ (values : List Value). length values) (gone_is n output) in
              omega (arith, f, same));
        };
      }

      -- one round more
      pub counted_next : Counted core steps (done + 1) others new
      counted_next = let next : suc done ≡ done + 1 = omega arith in subst (λ k. Counted core steps k others new) next then_counted

-- after all rounds the totals are those of the whole run
pub counted_all : (core : Core) (steps : ℕ) (totals : List Total) (engine : Engine) → Counted core steps (rounds_of SPAN steps) totals engine → (n : ℕ)
    → IsOutputStream core n → total_at totals n ≡ total_after core steps n
counted_all core steps totals engine it n output =
    let there = output_there core n output in
    let all : (part_of (whole core (made SPAN steps (rounds_of SPAN steps))) n).taken ≡ it.earlier n ++ taken_in (state_of engine) n =
    ap (λ (p : Part). p.taken) (it.piece.parts n (To there.0) there.1) in
    let none : it.earlier n ++ taken_in (state_of engine) n ≡ it.earlier n = ap (λ taken. it.earlier n ++ taken) (it.cleared n output) ∙ append-nil (it.earlier n) in
    it.counted.each n output
    ∙ ap (Its core n) (sym (all ∙ none) ∙ ap (λ k. taken_in (whole core k) n) (all_made SPAN steps (omega arith)))

-- the lines of these totals are those of the demo
pub lines_are : (core other : Core) (steps : ℕ) (totals : List Total) (engine : Engine) → other ≡ core → Counted core steps (rounds_of SPAN steps) totals engine
    → chain_lines other (total_at totals) ≡ demo_lines core steps
lines_are core other steps totals engine same it =
    ap (λ c. chain_lines c (total_at totals)) same
    ∙ same_chains core (total_at totals) (total_after core steps) (counted_all core steps totals engine it)
