-- A round of a piece is one of the whole run: it is fed before, and cleared afterwards.
use Rattle.std.proofs.Common.{◌≡◌, ℕ, zero, suc, ◌<◌, List, [], ◌++◌, drop, length, Some, slice_get, refl, ap, sym, ◌∙◌, subst, arith}
use Rattle.std.proofs.lemmas.List.{append_assoc, append-nil}
use Rattle.std.proofs.Math.Seq.{drop-append_seam}
use Rattle.std.proofs.lemmas.Option.{slice_get_within}
use Rattle.std.specs.Option.{unwrap_or}
use Rattle.hume_base.specs.declared.types.Value.{Value}
use Rattle.hume_model.specs.declared.core_tree.NodeC.{NodeC}
use Rattle.hume_model.specs.declared.core_tree.Core.{Core}
use Rattle.hume_net.specs.declared.state.Part.{Part}
use Rattle.hume_net.specs.declared.state.State.{State}
use Rattle.hume_net.specs.Sides.{part_of}
use Rattle.hume_net.specs.Start.{start, no_values}
use Rattle.hume_net.specs.Lockstep.{lockstep}
use Rattle.hume_net.proofs.Gathered.{numbered_get}
use Rattle.hume_net.specs.rounds.Rounds.{length_of, made}
use Rattle.hume_net.specs.rounds.Streams.{gained}
use Rattle.hume_net.specs.rounds.Pieces.{nothing, listed, taken_in, IsPieceOf, IsFilled, fed, cleared, round_over, after_rounds, taken_by, IsFedByRounds}
use Rattle.hume_net.proofs.rounds_lemmas.Clearing.{none_at}
use Rattle.hume_net.proofs.rounds_lemmas.PieceSteps.{lockstep_piece}
use Rattle.hume_net.proofs.rounds_lemmas.RoundCounts.{made_more, none_made}
use Rattle.hume_net.proofs.rounds_lemmas.Sums.{lockstep_sum}

module _ (core : Core) where
  -- before the first superstep nothing is taken, and all values come later
  pub start_piece : (coming : List (List Value)) → IsPieceOf core nothing (listed coming) (start core (no_values core)) (start core coming)
  start_piece coming = record {
    wires = λ w wire found. refl;
    parts = λ n node is i. record {
      pending = (part_of (start core coming) n).pending;
      order = (part_of (start core coming) n).order;
      coming = ap (λ none. none ++ listed coming n) (sym (none_at core n node is)) i;
      taken = (part_of (start core coming) n).taken;
    };
  }

  module _ (earlier later : ℕ → List Value) (piece whole : State) where
    -- values that are fed come no longer later
    pub fed_piece : (values : ℕ → List Value) → IsPieceOf core earlier (λ n. values n ++ later n) piece whole
        → IsPieceOf core earlier later (fed core values piece) whole
    fed_piece values it = record {
      wires = it.wires;
      parts = λ n node is.
          let now : (part_of (fed core values piece) n).coming ≡ (part_of piece n).coming ++ values n =
          ap (λ o. unwrap_or o []) (numbered_get (length core.nodes) (λ n. (part_of piece n).coming ++ values n) n (slice_get_within core.nodes n node is)) in
          it.parts n node is
          ∙ (λ i. record {
            pending = (part_of piece n).pending;
            order = (part_of piece n).order;
            coming = (sym (append_assoc (part_of piece n).coming (values n) (later n)) ∙ ap (λ coming. coming ++ later n) (sym now)) i;
            taken = earlier n ++ (part_of piece n).taken;
          });
    }

    -- values that are cleared were taken earlier
    pub clear_piece : IsPieceOf core earlier later piece whole → IsPieceOf core (λ n. earlier n ++ taken_in piece n) later (cleared core piece) whole
    clear_piece it = record {
      wires = it.wires;
      parts = λ n node is.
          it.parts n node is
          ∙ (λ i. record {
            pending = (part_of piece n).pending;
            order = (part_of piece n).order;
            coming = (part_of piece n).coming ++ later n;
            taken = (sym (append-nil (earlier n ++ taken_in piece n)) ∙ ap (λ none. (earlier n ++ taken_in piece n) ++ none) (sym (none_at core n node is))) i;
          });
    }

    other_later : (other : ℕ → List Value) → ((n : ℕ) (node : NodeC) → slice_get core.nodes n ≡ Some node → later n ≡ other n)
        → IsPieceOf core earlier later piece whole → IsPieceOf core earlier other piece whole
    other_later other same it = record {
      wires = it.wires;
      parts = λ n node is.
          it.parts n node is
          ∙ (λ i. record {
            pending = (part_of piece n).pending;
            order = (part_of piece n).order;
            coming = (part_of piece n).coming ++ same n node is i;
            taken = earlier n ++ (part_of piece n).taken;
          });
    }

  module _ (coming : List (List Value)) (span steps done : ℕ) where
    abbrev at_begin : State
    at_begin = lockstep core (start core coming) (made span steps done)

    abbrev at_end : State
    at_end = lockstep core (start core coming) (made span steps (suc done))

    one_round : lockstep core at_begin (length_of span steps (suc done)) ≡ at_end
    one_round =
        sym (lockstep_sum core (start core coming) (made span steps done) (length_of span steps (suc done)))
        ∙ ap (lockstep core (start core coming)) (made_more span steps done)

    abbrev long : ℕ
    long = length_of span steps (suc done)

    module _ (earlier later : ℕ → List Value) (piece : State) (it : IsPieceOf core earlier later piece at_begin) (filled : IsFilled core long later piece) where
      pub round_piece : IsPieceOf core earlier later (lockstep core piece (length_of span steps (suc done))) at_end
      round_piece =
          subst (IsPieceOf core earlier later (lockstep core piece (length_of span steps (suc done)))) one_round
          (lockstep_piece core earlier later (length_of span steps (suc done)) piece at_begin filled it)

      -- a piece that is cleared takes what the whole gains
      pub round_gained : (n : ℕ) (node : NodeC) → slice_get core.nodes n ≡ Some node → (part_of piece n).taken ≡ []
          → gained at_begin at_end n ≡ (part_of (lockstep core piece (length_of span steps (suc done))) n).taken
      round_gained n node is none =
          let before : (part_of at_begin n).taken ≡ earlier n =
          ap (λ (p : Part). p.taken) (it.parts n node is) ∙ ap (λ taken. earlier n ++ taken) none ∙ append-nil (earlier n) in
          let after = ap (λ (p : Part). p.taken) (round_piece.parts n node is) in
          ap (λ taken. drop (length taken) (part_of at_end n).taken) before
          ∙ ap (drop (length (earlier n))) after
          ∙ drop-append_seam (earlier n) (part_of (lockstep core piece (length_of span steps (suc done))) n).taken

-- all rounds

module _ (core : Core) (coming : List (List Value)) (span steps : ℕ) (feeds later : ℕ → ℕ → List Value) where
  fewer_fed : (rounds : ℕ) → IsFedByRounds core span steps coming feeds later (suc rounds) → IsFedByRounds core span steps coming feeds later rounds
  fewer_fed rounds it = record {
    all = it.all;
    parts = λ done less. it.parts done (omega (arith, less));
    filled = λ done less. it.filled done (omega (arith, less));
  }

  pub rounds_piece : (rounds : ℕ) → IsFedByRounds core span steps coming feeds later rounds
      → IsPieceOf core (taken_by core span steps feeds rounds) (later rounds) (after_rounds core span steps feeds rounds)
      (lockstep core (start core coming) (made span steps rounds))
  unfolding after_rounds taken_by lockstep
  rounds_piece zero it =
      subst (λ k. IsPieceOf core nothing (later zero) (start core (no_values core)) (lockstep core (start core coming) k)) (sym (none_made span steps))
      (other_later core nothing (listed coming) (start core (no_values core)) (start core coming) (later zero) it.all (start_piece core coming))
  rounds_piece (suc done) it =
      let before = rounds_piece done (fewer_fed done it) in
      let so_far = taken_by core span steps feeds done in
      let state = after_rounds core span steps feeds done in
      let whole = lockstep core (start core coming) (made span steps done) in
      let given = other_later core so_far (later done) state whole (λ n. feeds (suc done) n ++ later (suc done) n) (it.parts done (omega arith)) before in
      let full = fed_piece core so_far (later (suc done)) state whole (feeds (suc done)) given in
      let over = round_piece core coming span steps done so_far (later (suc done)) (fed core (feeds (suc done)) state) full (it.filled done (omega arith)) in
      clear_piece core so_far (later (suc done)) (round_over core (length_of span steps (suc done)) (feeds (suc done)) state)
      (lockstep core (start core coming) (made span steps (suc done))) over

  nothing_taken : (rounds n : ℕ) (node : NodeC) → slice_get core.nodes n ≡ Some node → (part_of (after_rounds core span steps feeds rounds) n).taken ≡ []
  unfolding after_rounds
  nothing_taken zero n node is = none_at core n node is
  nothing_taken (suc done) n node is = none_at core n node is

  some_fed : (rounds done : ℕ) → done < rounds → IsFedByRounds core span steps coming feeds later rounds → IsFedByRounds core span steps coming feeds later done
  some_fed rounds done less it = record {
    all = it.all;
    parts = λ k within. it.parts k (omega (arith, within, less));
    filled = λ k within. it.filled k (omega (arith, within, less));
  }

  -- each round takes what the whole run gains in it
  pub rounds_gained : (rounds done : ℕ) → IsFedByRounds core span steps coming feeds later rounds → done < rounds → (n : ℕ) (node : NodeC)
      → slice_get core.nodes n ≡ Some node
      → gained (lockstep core (start core coming) (made span steps done)) (lockstep core (start core coming) (made span steps (suc done))) n
      ≡ (part_of (round_over core (length_of span steps (suc done)) (feeds (suc done)) (after_rounds core span steps feeds done)) n).taken
  rounds_gained rounds done it less n node is =
      let first = some_fed rounds done less it in
      let so_far = taken_by core span steps feeds done in
      let state = after_rounds core span steps feeds done in
      let whole = lockstep core (start core coming) (made span steps done) in
      let given =
      other_later core so_far (later done) state whole (λ n. feeds (suc done) n ++ later (suc done) n) (it.parts done less) (rounds_piece done first) in
      let full = fed_piece core so_far (later (suc done)) state whole (feeds (suc done)) given in
      round_gained core coming span steps done so_far (later (suc done)) (fed core (feeds (suc done)) state) full (it.filled done less) n node is
      (nothing_taken done n node is)
