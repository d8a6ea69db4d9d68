-- An input stream blocks a round where it has a bad line and fewer values to come than the round has supersteps; and which
-- round is the first that is blocked.
use Rattle.std.proofs.Common.{◌≡◌, ℕ, zero, suc, ◌+◌, ◌<◌, ◌≤◌, nat_lt, Bool, true, false, cond, ◌&&◌, List, [], ◌++◌, length, Option, Some, None, slice_get, refl, ap, sym, ◌∙◌, inl, inr, ◌⊎◌, arith, length-append}
use Rattle.std.proofs.lemmas.List.{append-nil}
use Rattle.std.proofs.lemmas.Bool.{cases_lt, lt-ltb, le-ltb}
use Rattle.std.specs.List.{find, range_with_len}
use Rattle.std.specs.Option.{is_some}
use Rattle.hume_base.specs.declared.types.Value.{Value}
use Rattle.hume_model.specs.declared.core_tree.NodeC.{NodeC}
use Rattle.hume_model.specs.declared.core_tree.Core.{Core}
use Rattle.hume_net.specs.declared.state.Part.{Part}
use Rattle.hume_net.specs.declared.state.State.{State}
use Rattle.hume_net.specs.Sides.{part_of}
use Rattle.hume_net.specs.Start.{start}
use Rattle.hume_net.specs.Lockstep.{lockstep}
use Rattle.hume_net.specs.rounds.Rounds.{begins, length_of, IsRound, rounds_of}
use Rattle.hume_net.specs.rounds.Streams.{asserted_between}
use Rattle.hume_net.specs.rounds.Pieces.{IsPieceOf}
use Rattle.hume_net.specs.rounds.Blocked.{blocks, blocking, first_blocked}
use Rattle.hume_net.proofs.rounds_lemmas.AheadOfStreams.{all_asserted}
use Rattle.hume_net.proofs.rounds_lemmas.RoundCounts.{round_counted}

less_by_as_many : (many a b : ℕ) → (a < b) ⊎ (b ≤ a) → nat_lt (many + a) (many + b) ≡ nat_lt a b
less_by_as_many many a b (inl less) = lt-ltb (many + a) (many + b) (omega (arith, less)) ∙ sym (lt-ltb a b less)
less_by_as_many many a b (inr enough) = le-ltb (many + a) (many + b) (omega (arith, enough)) ∙ sym (le-ltb a b enough)

false_at_last : (a : Bool) → (a && false) ≡ false
false_at_last true = refl
false_at_last false = refl

module _ (core : Core) (good : List (List Value)) (is_bad : ℕ → Bool) (span steps round : ℕ) where
  abbrev at_begin : State
  at_begin = lockstep core (start core good) (begins span round)

  module _ (n : ℕ) (node : NodeC) (is : slice_get core.nodes n ≡ Some node) where
    pub lacks_values : blocks core good is_bad span steps round n ≡ (is_bad n && nat_lt (length (part_of at_begin n).coming) (length_of span steps round))
    lacks_values =
        let asserted = asserted_between (start core good) at_begin n in
        let left = (part_of at_begin n).coming in
        let all = ap length (all_asserted core (start core good) (begins span round) n node is) ∙ length-append asserted left in
        ap (λ count. is_bad n && nat_lt count (length asserted + length_of span steps round)) all
        ∙ ap (λ less. is_bad n && less)
        (less_by_as_many (length asserted) (length left) (length_of span steps round) (cases_lt (length left) (length_of span steps round)))

    module _ (earlier later : ℕ → List Value) (piece : State) (it : IsPieceOf core earlier later piece at_begin) where
      coming_in_all : (part_of at_begin n).coming ≡ (part_of piece n).coming ++ later n
      coming_in_all = ap (λ (p : Part). p.coming) (it.parts n node is)

      pub blocks_at_its_end : later n ≡ []
          → blocks core good is_bad span steps round n ≡ (is_bad n && nat_lt (length (part_of piece n).coming) (length_of span steps round))
      blocks_at_its_end none =
          let all = coming_in_all ∙ ap (λ rest. (part_of piece n).coming ++ rest) none ∙ append-nil (part_of piece n).coming in
          lacks_values ∙ ap (λ coming. is_bad n && nat_lt (length coming) (length_of span steps round)) all

      pub filled_goes_on : length_of span steps round ≤ length (part_of piece n).coming → blocks core good is_bad span steps round n ≡ false
      filled_goes_on enough =
          let all = ap length coming_in_all ∙ length-append (part_of piece n).coming (later n) in
          let many = le-ltb (length (part_of at_begin n).coming) (length_of span steps round) (omega (arith, all, enough)) in
          lacks_values ∙ ap (λ less. is_bad n && less) many ∙ false_at_last (is_bad n)

-- the first number of which something holds

module _ (test : ℕ → Bool) where
  pub first_number : (a count number : ℕ) → a ≤ number → number < a + count → test number ≡ true → ((i : ℕ) → a ≤ i → i < number → test i ≡ false)
      → find test (range_with_len a count) ≡ Some number
  first_number a zero number from to holds none = absurd (omega (arith, from, to))
  first_number a (suc count) number from to holds none = elim (cases_lt a number) [
    | inl less ↦ ap (λ b. cond b (Some a) (find test (range_with_len (a + 1) count))) (none a (omega arith) less)
        ∙ first_number (a + 1) count number (omega (arith, less)) (omega (arith, to)) holds (λ i after before. none i (omega (arith, after)) before)
    | inr last ↦ (let same : number ≡ a = omega (arith, from, last) in
        ap (λ b. cond b (Some a) (find test (range_with_len (a + 1) count))) (ap test (sym same) ∙ holds) ∙ ap Some (sym same))
  ]

  pub no_number : (a count : ℕ) → ((i : ℕ) → a ≤ i → i < a + count → test i ≡ false) → find test (range_with_len a count) ≡ None
  no_number a zero none = refl
  no_number a (suc count) none =
      ap (λ b. cond b (Some a) (find test (range_with_len (a + 1) count))) (none a (omega arith) (omega arith))
      ∙ no_number (a + 1) count (λ i from to. none i (omega (arith, from)) (omega (arith, to)))

module _ (core : Core) (good : List (List Value)) (is_bad : ℕ → Bool) (span steps : ℕ) where
  abbrev Blocks : ℕ → ℕ → Bool
  Blocks round = blocks core good is_bad span steps round

  abbrev Blocking : ℕ → Option ℕ
  Blocking round = blocking core good is_bad span steps round

  pub blocking_is : (round n : ℕ) → n < length core.nodes → Blocks round n ≡ true → ((other : ℕ) → other < n → Blocks round other ≡ false)
      → Blocking round ≡ Some n
  blocking_is round n within holds none =
      first_number (Blocks round) 0 (length core.nodes) n (omega arith) (omega (arith, within)) holds (λ i from to. none i to)

  pub nothing_blocks : (round : ℕ) → ((n : ℕ) → n < length core.nodes → Blocks round n ≡ false) → Blocking round ≡ None
  nothing_blocks round none = no_number (Blocks round) 0 (length core.nodes) (λ i from to. none i (omega (arith, to)))

  abbrev is_blocked : ℕ → Bool
  is_blocked round = is_some (Blocking round)

  pub first_is : (round n : ℕ) → 1 ≤ span → IsRound span steps round → Blocking round ≡ Some n
      → ((other : ℕ) → 1 ≤ other → other < round → Blocking other ≡ None)
      → first_blocked core good is_bad span steps ≡ Some round
  first_is round n positive is holds none =
      let within = round_counted span steps positive round is in
      let one = is.counted in
      first_number is_blocked 1 (rounds_of span steps) round one (omega (arith, within)) (ap is_some holds) (λ i from to. ap is_some (none i from to))

  pub none_is_blocked : ((round : ℕ) → 1 ≤ round → round ≤ rounds_of span steps → Blocking round ≡ None) → first_blocked core good is_bad span steps ≡ None
  none_is_blocked none = no_number is_blocked 1 (rounds_of span steps) (λ i from to. ap is_some (none i from (omega (arith, to))))
