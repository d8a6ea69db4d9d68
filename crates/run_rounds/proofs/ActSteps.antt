-- The acts of a run, read by read and round by round.
use Rattle.std.proofs.Common.{◌≡◌, ℕ, suc, ◌+◌, ◌-◌, ◌<◌, ◌≤◌, Bool, true, false, true≢false, List, ◌++◌, length, Option, None, Some, slice_get, refl, ap, sym, ◌∙◌, inl, inr, arith}
use Rattle.std.proofs.lemmas.Bool.{cases_lt}
use Rattle.std.proofs.lemmas.List.{append_assoc}
use Rattle.std.specs.Option.{is_some}
use Rattle.hume_base.specs.declared.types.Value.{Value}
use Rattle.hume_model.specs.declared.core_tree.Core.{Core}
use Rattle.hume_net.specs.rounds.Blocked.{blocks}
use Rattle.hume_net.specs.rounds.Rounds.{IsRound, rounds_of}
use Rattle.hume_net.proofs.rounds_lemmas.RoundCounts.{round_counted}
use Rattle.port_acts.specs.Acts.{Act}
use Rattle.run_rounds.specs.Inputs.{Inputs, is_bad}
use Rattle.run_rounds.specs.Writes.{span_of, blocked_by, blocked_round}
use Rattle.run_rounds.specs.RunActs.{blocked_wants, made_acts, made_until, reading, round_wants, rounds_acts, wants_of_node, writing}
use Rattle.run_rounds.proofs.FirstFound.{found}
use Rattle.run_rounds.proofs.Ranges.{flat_more, flat_within}

pub some_span : (traced : Bool) → 1 ≤ span_of traced
some_span true = omega arith
some_span false = omega arith

-- the wants of one node more
pub wants_more : (core : Core) (good : List (List Value)) (span steps round n : ℕ)
    → round_wants core good span steps round (n + 1) ≡ round_wants core good span steps round n ++ wants_of_node core good span steps round n (slice_get core.nodes n)
wants_more core good span steps round n =
    let next : n + 1 ≡ suc n = omega arith in
    let here : 0 + n ≡ n = omega arith in
    ap (round_wants core good span steps round) next
    ∙ flat_more (λ m. wants_of_node core good span steps round m (slice_get core.nodes m)) 0 n
    ∙ ap (λ m. round_wants core good span steps round n ++ wants_of_node core good span steps round m (slice_get core.nodes m)) here

pub wants_within : (core : Core) (good : List (List Value)) (span steps round n total : ℕ) → n ≤ total
    → (rest : List Act) × (round_wants core good span steps round total ≡ round_wants core good span steps round n ++ rest)
wants_within core good span steps round n total within =
    flat_within (λ m. wants_of_node core good span steps round m (slice_get core.nodes m)) 0 n total within

-- the acts of one round more
pub rounds_more : (core : Core) (good : List (List Value)) (traced : Bool) (steps done : ℕ)
    → rounds_acts core good traced steps (suc done)
    ≡ rounds_acts core good traced steps done ++ (reading core good traced steps (suc done) ++ writing core good traced steps (suc done))
rounds_more core good traced steps done =
    let number : 1 + done ≡ suc done = omega arith in
    flat_more (λ round. reading core good traced steps round ++ writing core good traced steps round) 1 done
    ∙ ap (λ round. rounds_acts core good traced steps done ++ (reading core good traced steps round ++ writing core good traced steps round)) number

pub rounds_within : (core : Core) (good : List (List Value)) (traced : Bool) (steps done total : ℕ) → done ≤ total
    → (rest : List Act) × (rounds_acts core good traced steps total ≡ rounds_acts core good traced steps done ++ rest)
rounds_within core good traced steps done total within =
    flat_within (λ round. reading core good traced steps round ++ writing core good traced steps round) 1 done total within

-- acts that begin with others go on behind them
abbrev pub BeginsWith : List Act → List Act → Type 0
BeginsWith whole first = (rest : List Act) × (whole ≡ first ++ rest)

pub begins_in : (whole middle first : List Act) → BeginsWith whole middle → BeginsWith middle first → BeginsWith whole first
begins_in whole middle first w m = (m.0 ++ w.0, w.1 ∙ ap (λ (acts : List Act). acts ++ w.0) m.1 ∙ append_assoc first m.0 w.0)

pub more_begin : (before whole first : List Act) → BeginsWith whole first → BeginsWith (before ++ whole) (before ++ first)
more_begin before whole first b = (b.0, ap (λ (acts : List Act). before ++ acts) b.1 ∙ sym (append_assoc before first b.0))

pub as_begun : (whole other first : List Act) → other ≡ whole → BeginsWith whole first → BeginsWith other first
as_begun whole other first same b = (b.0, same ∙ b.1)

module _ (core : Core) (inputs : Inputs) (traced : Bool) (steps : ℕ) where
  abbrev Whole : List Act
  Whole = made_acts core inputs traced steps

  abbrev Rounds : ℕ → List Act
  Rounds count = rounds_acts core inputs.good traced steps count

  abbrev Wants : ℕ → ℕ → List Act
  Wants round count = round_wants core inputs.good (span_of traced) steps round count

  abbrev Blocking : ℕ → Option ℕ
  Blocking round = blocked_by core inputs traced steps round

  -- the first blocked round is a round that a stream blocks
  blocked_is : (round : ℕ) → blocked_round core inputs (span_of traced) steps ≡ Some round → (1 ≤ round) × (is_some (Blocking round) ≡ true)
  blocked_is round is =
      let f = found (λ r. is_some (Blocking r)) 1 (rounds_of (span_of traced) steps) round is in
      (f.least, f.passes)

  -- the first rounds come first where none of them is blocked
  until_first : (count : ℕ) → count ≤ rounds_of (span_of traced) steps → ((round : ℕ) → 1 ≤ round → round ≤ count → Blocking round ≡ None)
      → (o : Option ℕ) → blocked_round core inputs (span_of traced) steps ≡ o → BeginsWith (made_until core inputs traced steps o) (Rounds count)
  until_first count within none None is =
      rounds_within core inputs.good traced steps count (rounds_of (span_of traced) steps) within
  until_first count within none (Some round) is =
      let b = blocked_is round is in
      elim (cases_lt count round) [
        | inl less ↦ begins_in (made_until core inputs traced steps (Some round)) (Rounds (round - 1)) (Rounds count)
            (blocked_wants core inputs traced steps round (Blocking round), refl)
            (rounds_within core inputs.good traced steps count (round - 1) (omega (arith, less)))
        | inr past ↦ absurd (true≢false (sym b.1 ∙ ap is_some (none round b.0 past)))
      ]

  pub unblocked_first : (count : ℕ) → count ≤ rounds_of (span_of traced) steps → ((round : ℕ) → 1 ≤ round → round ≤ count → Blocking round ≡ None)
      → BeginsWith Whole (Rounds count)
  unblocked_first count within none = until_first count within none (blocked_round core inputs (span_of traced) steps) refl

  module _ (done n : ℕ) (is : IsRound (span_of traced) steps (suc done)) (none : (round : ℕ) → 1 ≤ round → round ≤ done → Blocking round ≡ None)
      (within : n < length core.nodes)
      (go_on : (m : ℕ) → m < n → blocks core inputs.good (is_bad inputs) (span_of traced) steps (suc done) m ≡ false) where
    abbrev First : List Act
    First = Rounds done ++ Wants (suc done) (n + 1)

    in_round : BeginsWith (Rounds (suc done)) First
    in_round =
        let all = wants_within core inputs.good (span_of traced) steps (suc done) (n + 1) (length core.nodes) (omega (arith, within)) in
        let round : List Act = reading core inputs.good traced steps (suc done) ++ writing core inputs.good traced steps (suc done) in
        as_begun (Rounds done ++ round) (Rounds (suc done)) First (rounds_more core inputs.good traced steps done)
        (more_begin (Rounds done) round (Wants (suc done) (n + 1))
        (begins_in round (reading core inputs.good traced steps (suc done)) (Wants (suc done) (n + 1)) (writing core inputs.good traced steps (suc done), refl) all))

    in_blocked : (o : Option ℕ) → Blocking (suc done) ≡ o → is_some o ≡ true
        → BeginsWith (Rounds done ++ blocked_wants core inputs traced steps (suc done) o) First
    in_blocked None by some = cc
    in_blocked (Some m) by some =
        let f = found (blocks core inputs.good (is_bad inputs) (span_of traced) steps (suc done)) 0 (length core.nodes) m by in
        elim (cases_lt m n) [
          | inl less ↦ absurd (true≢false (sym f.passes ∙ go_on m less))
          | inr past ↦ more_begin (Rounds done) (blocked_wants core inputs traced steps (suc done) (Some m)) (Wants (suc done) (n + 1))
              (wants_within core inputs.good (span_of traced) steps (suc done) (n + 1) (m + 1) (omega (arith, past)))
        ]

    until_want : (o : Option ℕ) → blocked_round core inputs (span_of traced) steps ≡ o → BeginsWith (made_until core inputs traced steps o) First
    until_want None blocked =
        begins_in (made_until core inputs traced steps None) (Rounds (suc done)) First
        (rounds_within core inputs.good traced steps (suc done) (rounds_of (span_of traced) steps) (round_counted (span_of traced) steps (some_span traced) (suc done) is))
        in_round
    until_want (Some round) blocked =
        let b = blocked_is round blocked in
        elim (cases_lt (suc done) round) [
          | inl less ↦ begins_in (made_until core inputs traced steps (Some round)) (Rounds (suc done)) First
              (begins_in (made_until core inputs traced steps (Some round)) (Rounds (round - 1)) (Rounds (suc done))
              (blocked_wants core inputs traced steps round (Blocking round), refl)
              (rounds_within core inputs.good traced steps (suc done) (round - 1) (omega (arith, less))))
              in_round
          | inr past ↦ elim (cases_lt done round) [
            | inl more ↦ (
                let same : round ≡ suc done = omega (arith, past, more) in
                let before : round - 1 ≡ done = omega (arith, same) in
                as_begun (Rounds done ++ blocked_wants core inputs traced steps (suc done) (Blocking (suc done))) (made_until core inputs traced steps (Some round)) First
                (ap (λ k. Rounds k ++ blocked_wants core inputs traced steps round (Blocking round)) before
                ∙ ap (λ k. Rounds done ++ blocked_wants core inputs traced steps k (Blocking k)) same)
                (in_blocked (Blocking (suc done)) refl (ap (λ k. is_some (Blocking k)) (sym same) ∙ b.1)))
            | inr few ↦ absurd (true≢false (sym b.1 ∙ ap is_some (none round b.0 few)))
          ]
        ]

    -- and then the reads up to that of a node that no earlier one blocks
    pub want_next : BeginsWith Whole First
    want_next = until_want (blocked_round core inputs (span_of traced) steps) refl
