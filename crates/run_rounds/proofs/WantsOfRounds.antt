-- Where the wants of a run stand.
use Rattle.std.proofs.Common.{◌≡◌, ◌⊎◌, ℕ, zero, suc, ◌+◌, ◌-◌, ◌<◌, ◌≤◌, ◌==◌, if◌then◌else◌, Bool, true, false, List, [], ◌∷◌, ◌++◌, length, Option, None, Some, slice_get, refl, ap, sym, ◌∙◌, subst, inl, inr, arith}
use Rattle.std.specs.List.{flat_map, range_with_len}
use Rattle.hume_base.specs.declared.types.Value.{Value}
use Rattle.hume_model.specs.declared.core_tree.NodeC.{NodeC}
use Rattle.hume_model.specs.declared.core_tree.NodeC.TheVariants.{Rules, From, To}
use Rattle.hume_model.specs.declared.core_tree.StreamC.{StreamC}
use Rattle.hume_model.specs.declared.core_tree.Core.{Core}
use Rattle.hume_net.specs.rounds.Rounds.{IsRound, rounds_of}
use Rattle.hume_net.proofs.rounds_lemmas.RoundCounts.{counted_round}
use Rattle.hume_ports.specs.Delivery.{Pairs}
use Rattle.port_acts.specs.Acts.{Act, wants, wanted, written, write_each}
use Rattle.port_acts.specs.Rounds.{round_acts}
use Rattle.port_acts.proofs.Wanting.{stands_in_round}
use Rattle.run_rounds.specs.Inputs.{Inputs}
use Rattle.run_rounds.specs.RunActs.{acts_until, blocked_acts, needed, reading, ReadsForRound, round_wants, rounds_acts, run_acts, wants_of_node, writing}
use Rattle.run_rounds.specs.Writes.{bad_value_writes, blocked_by, blocked_round, peak_writes, round_writes, span_of}
use Rattle.run_rounds.proofs.ActSteps.{some_span}
use Rattle.run_rounds.proofs.FirstFound.{found}
use Rattle.run_rounds.proofs.LawsOfActs.{wants_quiet}
use Rattle.std.specs.Option.{is_some}
use Rattle.std.proofs.lemmas.Bool.{cases_Bool, cases_lt, eq-eqb, eqb-true, ne_eqb}
use Rattle.port_acts.proofs.Each.{all_written}
use Rattle.run_rounds.proofs.Ranges.{flat_more, same_flat}

-- writes want nothing
each_blind : (pairs : Pairs) → wanted (write_each pairs) ≡ []
each_blind [] = refl
each_blind (pair ∷ pairs) = each_blind pairs

-- a part of a range is a range
record IsSplit (from count : ℕ) (earlier : List ℕ) (round : ℕ) : Type 0 where
  least : from ≤ round
  most : round < from + count
  is_range : earlier ≡ range_with_len from (round - from)

split_range : (from count : ℕ) (earlier later : List ℕ) (round : ℕ) → range_with_len from count ≡ earlier ++ round ∷ later → IsSplit from count earlier round
split_range from zero [] later round e = cc
split_range from zero (first ∷ earlier) later round e = cc
split_range from (suc count) [] later round e =
    let same : from ≡ round = cc in
    let none : round - from ≡ 0 = omega (arith, same) in
    record { least = omega (arith, same); most = omega (arith, same); is_range = sym (ap (range_with_len from) none) }
split_range from (suc count) (first ∷ earlier) later round e =
    let same : from ≡ first = cc in
    let tails : range_with_len (from + 1) count ≡ earlier ++ round ∷ later = cc in
    let rest = split_range (from + 1) count earlier later round tails in
    let least = rest.least in
    let most = rest.most in
    let next : round - from ≡ suc (round - (from + 1)) = omega (arith, least) in
    record {
      least = omega (arith, least);
      most = omega (arith, most);
      is_range = ap (λ (others : List ℕ). first ∷ others) rest.is_range ∙ ap (λ n. n ∷ range_with_len (from + 1) (round - (from + 1))) (sym same)
          ∙ sym (ap (range_with_len from) next);
    }

module _ (core : Core) (good : List (List Value)) (span steps round : ℕ) where
  -- a want of one node
  pub record OfNode (name : List ℕ) (count : ℕ) : Type 0 where
    pub node : ℕ
    pub stream : StreamC
    pub at : slice_get core.nodes node ≡ Some (From stream)
    pub is_port : name ≡ stream.port
    pub is_needed : count ≡ needed core good span steps round node

  abbrev Of : ℕ → List Act
  Of n = wants_of_node core good span steps round n (slice_get core.nodes n)

  of_node : (n : ℕ) (o : Option NodeC) → slice_get core.nodes n ≡ o → (rest read unread : List Act) (name : List ℕ) (count : ℕ)
      → wants_of_node core good span steps round n o ++ rest ≡ read ++ wants name count ∷ unread
      → OfNode name count ⊎ ((first : List Act) × (rest ≡ first ++ wants name count ∷ unread))
  of_node n None is rest read unread name count e = inr (read, e)
  of_node n (Some (Rules b)) is rest read unread name count e = inr (read, e)
  of_node n (Some (To stream)) is rest read unread name count e = inr (read, e)
  of_node n (Some (From stream)) is rest [] unread name count e =
      let here : wants stream.port (needed core good span steps round n) ≡ wants name count = cc in
      inl (record { node = n; stream = stream; at = is; is_port = cc; is_needed = cc })
  of_node n (Some (From stream)) is rest (act ∷ read) unread name count e = inr (read, cc)

  among_wants : (numbers : List ℕ) (read unread : List Act) (name : List ℕ) (count : ℕ) → flat_map Of numbers ≡ read ++ wants name count ∷ unread
      → OfNode name count
  among_wants [] [] unread name count e = cc
  among_wants [] (act ∷ read) unread name count e = cc
  among_wants (n ∷ numbers) read unread name count e = elim (of_node n (slice_get core.nodes n) refl (flat_map Of numbers) read unread name count e) [
    | inl here ↦ here
    | inr later ↦ among_wants numbers later.0 unread name count later.1
  ]

-- rounds, and then one more that reads and writes otherwise
module _ (core : Core) (good : List (List Value)) (traced : Bool) (steps rounds last : ℕ) (lines : Pairs) where
  abbrev Reads : ℕ → List Act
  Reads round = if round == suc rounds then round_wants core good (span_of traced) steps (suc rounds) last else reading core good traced steps round

  abbrev Lines : ℕ → Pairs
  Lines round = if round == suc rounds then lines else round_writes core good traced steps round

  reads_silent : (round : ℕ) → written (Reads round) ≡ []
  reads_silent round = by_case (round == suc rounds)
    where
      by_case : (b : Bool) → written (if b then round_wants core good (span_of traced) steps (suc rounds) last else reading core good traced steps round) ≡ []
      by_case true = (wants_quiet core good (span_of traced) steps (suc rounds) last).0
      by_case false = (wants_quiet core good (span_of traced) steps round _).0

  alike : (n : ℕ) → n < suc rounds → (n == suc rounds) ≡ false
  alike n less = ne_eqb n (suc rounds) (λ same. omega (arith, less, same))

  -- the acts are those of rounds
  as_rounds : round_acts Reads (λ round. write_each (Lines round)) (range_with_len 1 (suc rounds))
      ≡ rounds_acts core good traced steps rounds ++ (round_wants core good (span_of traced) steps (suc rounds) last ++ write_each lines)
  as_rounds =
      let number : 1 + rounds ≡ suc rounds = omega arith in
      let here : (suc rounds == suc rounds) ≡ true = eq-eqb (suc rounds) (suc rounds) refl in
      flat_more (λ round. Reads round ++ write_each (Lines round)) 1 rounds
      ∙ ap (λ round. flat_map (λ r. Reads r ++ write_each (Lines r)) (range_with_len 1 rounds) ++ (Reads round ++ write_each (Lines round))) number
      ∙ ap (λ b. flat_map (λ r. Reads r ++ write_each (Lines r)) (range_with_len 1 rounds)
      ++ ((if b then round_wants core good (span_of traced) steps (suc rounds) last else reading core good traced steps (suc rounds))
      ++ write_each (if b then lines else round_writes core good traced steps (suc rounds)))) here
      ∙ ap (λ first. first ++ (round_wants core good (span_of traced) steps (suc rounds) last ++ write_each lines))
      (same_flat (λ r. Reads r ++ write_each (Lines r)) (λ r. reading core good traced steps r ++ writing core good traced steps r) 1 rounds
      (λ n least most. ap (λ b. (if b then round_wants core good (span_of traced) steps (suc rounds) last else reading core good traced steps n)
      ++ write_each (if b then lines else round_writes core good traced steps n)) (alike n (omega (arith, most)))))

  read_at : (round : ℕ) (read unread : List Act) (name : List ℕ) (count : ℕ) → Reads round ≡ read ++ wants name count ∷ unread
      → OfNode core good (span_of traced) steps round name count
  read_at round read unread name count e = elim (cases_Bool (round == suc rounds)) [
    | inl is ↦ (
        let same : suc rounds ≡ round = sym (eqb-true round (suc rounds) is) in
        subst (λ r. OfNode core good (span_of traced) steps r name count) same
        (among_wants core good (span_of traced) steps (suc rounds) (range_with_len 0 last) read unread name count
        (sym (ap (λ b. if b then round_wants core good (span_of traced) steps (suc rounds) last else reading core good traced steps round) is) ∙ e)))
    | inr isnt ↦ among_wants core good (span_of traced) steps round (range_with_len 0 (length core.nodes)) read unread name count
        (sym (ap (λ b. if b then round_wants core good (span_of traced) steps (suc rounds) last else reading core good traced steps round) isnt) ∙ e)
  ]

  none_read : (k : ℕ) (read unread : List Act) (act : Act) → round_wants core good (span_of traced) steps (suc rounds) k ≡ read ++ act ∷ unread → 1 ≤ k
  none_read zero [] unread act e = cc
  none_read zero (first ∷ read) unread act e = cc
  none_read (suc k) read unread act e = omega arith

  some_last : (round : ℕ) (read unread : List Act) (name : List ℕ) (count : ℕ) → round ≡ suc rounds → Reads round ≡ read ++ wants name count ∷ unread → 1 ≤ last
  some_last round read unread name count same e =
      none_read last read unread (wants name count)
      (sym (ap (λ b. if b then round_wants core good (span_of traced) steps (suc rounds) last else reading core good traced steps round) (eq-eqb round (suc rounds) same)) ∙ e)

  pub reads_for_round : (before later : List Act) (name : List ℕ) (count : ℕ)
      → rounds_acts core good traced steps rounds ++ (round_wants core good (span_of traced) steps (suc rounds) last ++ write_each lines) ≡ before ++ wants name count ∷ later
      → ((round : ℕ) → 1 ≤ round → round ≤ suc rounds → (round ≡ suc rounds → 1 ≤ last) → IsRound (span_of traced) steps round)
      → ReadsForRound core good traced steps before name count
  reads_for_round before later name count e is_round =
      let stands = stands_in_round Reads (λ round. write_each (Lines round)) reads_silent (λ round. each_blind (Lines round)) (range_with_len 1 (suc rounds)) before later name count (as_rounds ∙ e) in
      let split = split_range 1 (suc rounds) stands.earlier stands.later stands.round stands.in_order in
      let here = read_at stands.round stands.read stands.unread name count stands.is in
      let most = split.most in
      let few : stands.round ≤ suc rounds = omega (arith, most) in
      record {
        round = stands.round;
        is_round = is_round stands.round split.least few (λ same. some_last stands.round stands.read stands.unread name count same stands.is);
        node = here.node;
        stream = here.stream;
        at = here.at;
        is_port = here.is_port;
        is_needed = here.is_needed;
        wrote = stands.wrote ∙ ap (flat_map (λ r. written (write_each (Lines r)))) split.is_range
            ∙ same_flat (λ r. written (write_each (Lines r))) (round_writes core good traced steps) 1 (stands.round - 1)
            (λ n least less. all_written (Lines n) ∙ ap (λ b. if b then lines else round_writes core good traced steps n) (alike n (omega (arith, less, most))));
      }

module _ (core : Core) (inputs : Inputs) (traced : Bool) (steps : ℕ) (before later : List Act) (name : List ℕ) (count : ℕ) where
  abbrev Rounds : ℕ
  Rounds = rounds_of (span_of traced) steps

  counted : (round : ℕ) → 1 ≤ round → round ≤ Rounds → IsRound (span_of traced) steps round
  counted round least most = counted_round (span_of traced) steps (some_span traced) round least most

  not_last : (rounds round : ℕ) → rounds ≤ Rounds → 1 ≤ round → round ≤ suc rounds → (round ≡ suc rounds → 1 ≤ 0) → IsRound (span_of traced) steps round
  not_last rounds round within least most never = elim (cases_lt rounds round) [
    | inl past ↦ absurd (let none = never (omega (arith, past, most)) in omega (arith, none))
    | inr few ↦ counted round least (omega (arith, few, within))
  ]

  blocked_reads : (rounds : ℕ) → suc rounds ≤ Rounds → (o : Option ℕ)
      → rounds_acts core inputs.good traced steps rounds ++ blocked_acts core inputs traced steps (suc rounds) o ≡ before ++ wants name count ∷ later
      → ReadsForRound core inputs.good traced steps before name count
  blocked_reads rounds within None e =
      reads_for_round core inputs.good traced steps rounds 0 [] before later name count e
      (λ round least most never. not_last rounds round (omega (arith, within)) least most never)
  blocked_reads rounds within (Some n) e =
      reads_for_round core inputs.good traced steps rounds (n + 1) (bad_value_writes core inputs (Some n)) before later name count e
      (λ round least most some. counted round least (omega (arith, most, within)))

  until_reads : (o : Option ℕ) → blocked_round core inputs (span_of traced) steps ≡ o
      → acts_until core inputs traced steps o ≡ before ++ wants name count ∷ later
      → ReadsForRound core inputs.good traced steps before name count
  until_reads None is e =
      reads_for_round core inputs.good traced steps Rounds 0 (peak_writes core inputs.good steps) before later name count e
      (λ round least most never. not_last Rounds round (omega arith) least most never)
  until_reads (Some round) is e =
      let f = found (λ r. is_some (blocked_by core inputs traced steps r)) 1 Rounds round is in
      let least = f.least in
      let most = f.most in
      let same : round ≡ suc (round - 1) = omega (arith, least) in
      blocked_reads (round - 1) (omega (arith, least, most)) (blocked_by core inputs traced steps round)
      (sym (ap (λ r. rounds_acts core inputs.good traced steps (round - 1) ++ blocked_acts core inputs traced steps r (blocked_by core inputs traced steps round)) same) ∙ e)

  pub wants_of_run : run_acts core inputs traced steps ≡ before ++ wants name count ∷ later → ReadsForRound core inputs.good traced steps before name count
  wants_of_run e = until_reads (blocked_round core inputs (span_of traced) steps) refl e
