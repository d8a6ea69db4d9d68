-- Where the wants of a recorded run stand.
use Rattle.std.proofs.Common.{◌≡◌, ◌⊎◌, ℕ, zero, suc, ◌+◌, ◌-◌, ◌*◌, ◌<◌, ◌≤◌, true, List, [], ◌∷◌, ◌++◌, length, Option, None, Some, slice_get, refl, ap, sym, ◌∙◌, inl, inr, arith, append-nil}
use Rattle.std.specs.List.{flat_map, range_with_len}
use Rattle.std.specs.Option.{is_some}
use Rattle.std.proofs.lemmas.List.{map-append}
use Rattle.hume_base.specs.declared.types.Value.{Value}
use Rattle.hume_model.specs.declared.core_tree.Core.{Core}
use Rattle.hume_model.specs.declared.core_tree.NodeC.{NodeC}
use Rattle.hume_model.specs.declared.core_tree.NodeC.TheVariants.{From, Rules, To}
use Rattle.hume_model.specs.declared.core_tree.StreamC.{StreamC}
use Rattle.hume_net.specs.Start.{start}
use Rattle.hume_net.specs.rounds.Rounds.{IsRound, rounds_of}
use Rattle.hume_net.proofs.rounds_lemmas.RoundCounts.{counted_round}
use Rattle.hume_ports.specs.Delivery.{Pairs}
use Rattle.port_acts.specs.Acts.{Act, finish_each, wants, write_each, written}
use Rattle.port_acts.proofs.ActLists.{written-append}
use Rattle.port_acts.proofs.Each.{all_written}
use Rattle.port_acts.proofs.Wanting.{stands_in_round}
use Rattle.port_acts.specs.Rounds.{round_acts}
use Rattle.run_log.specs.declared.half.Half.TheVariants.{End}
use Rattle.run_log.specs.Logs.{block, log_lines, superstep_blocks}
use Rattle.run_rounds.specs.Inputs.{Inputs}
use Rattle.run_rounds.specs.RunActs.{blocked_acts, needed, reading, round_wants, wants_of_node}
use Rattle.run_rounds.specs.Streams.{std_out}
use Rattle.run_rounds.specs.Writes.{bad_value_writes, blocked_by}
use Rattle.run_rounds.proofs.FirstFound.{found}
use Rattle.run_rounds.proofs.LawsOfActs.{wants_quiet}
use Rattle.log_rounds.specs.RecordActs.{logged, logged_acts, logging, record_acts, start_acts}
use Rattle.log_rounds.specs.Supersteps.{before_blocked, blocked_end, blocked_superstep}
use Rattle.hume_calls.specs.Owed.{owed_record}
use Rattle.hume_calls.proofs.UnionWants.{nothing_before}
use Rattle.hume_calls.proofs.Wanting.{no_want_of_writes, split}
use Rattle.call_laws.proofs.FailedWants.{IsForRound}
use Rattle.form_laws.proofs.MadeSupersteps.{whole_rounds}
use Rattle.call_laws.proofs.OtherLines.{writes_read_nothing}

-- the numbers before one of a range are a range

record IsSplit (from count : ℕ) (earlier : List ℕ) (round : ℕ) : Type 0 where
  least : from ≤ round
  most : round < from + count
  is_range : earlier ≡ range_with_len from (round - from)

split_range : (from count : ℕ) (earlier later : List ℕ) (round : ℕ) → range_with_len from count ≡ earlier ++ round ∷ later → IsSplit from count earlier round
split_range from zero [] later round e = cc
split_range from zero (first ∷ earlier) later round e = cc
split_range from (suc count) [] later round e =
    let same : from ≡ round = cc in
    let none : round - from ≡ 0 = omega (arith, same) in
    record { least = omega (arith, same); most = omega (arith, same); is_range = sym (ap (range_with_len from) none) }
split_range from (suc count) (first ∷ earlier) later round e =
    let same : from ≡ first = cc in
    let tails : range_with_len (from + 1) count ≡ earlier ++ round ∷ later = cc in
    let rest = split_range (from + 1) count earlier later round tails in
    let least = rest.least in
    let most = rest.most in
    let next : round - from ≡ suc (round - (from + 1)) = omega (arith, least) in
    record {
      least = omega (arith, least);
      most = omega (arith, most);
      is_range = ap (λ (others : List ℕ). first ∷ others) rest.is_range ∙ ap (λ n. n ∷ range_with_len (from + 1) (round - (from + 1))) (sym same)
          ∙ sym (ap (range_with_len from) next);
    }

module _ (core : Core) (good : List (List Value)) (steps : ℕ) where
  -- a want among those of a superstep is of one node

  record OfNode (superstep : ℕ) (name : List ℕ) (count : ℕ) : Type 0 where
    node : ℕ
    stream : StreamC
    at : slice_get core.nodes node ≡ Some (From stream)
    is_port : name ≡ stream.port
    is_needed : count ≡ needed core good 1 steps superstep node

  abbrev Of : ℕ → ℕ → List Act
  Of superstep n = wants_of_node core good 1 steps superstep n (slice_get core.nodes n)

  of_node : (superstep n : ℕ) (o : Option NodeC) → slice_get core.nodes n ≡ o → (rest read unread : List Act) (name : List ℕ) (count : ℕ)
      → wants_of_node core good 1 steps superstep n o ++ rest ≡ read ++ wants name count ∷ unread
      → OfNode superstep name count ⊎ ((first : List Act) × (rest ≡ first ++ wants name count ∷ unread))
  of_node superstep n None is rest read unread name count e = inr (read, e)
  of_node superstep n (Some (Rules b)) is rest read unread name count e = inr (read, e)
  of_node superstep n (Some (To stream)) is rest read unread name count e = inr (read, e)
  of_node superstep n (Some (From stream)) is rest [] unread name count e =
      inl (record { node = n; stream = stream; at = is; is_port = cc; is_needed = cc })
  of_node superstep n (Some (From stream)) is rest (act ∷ read) unread name count e = inr (read, cc)

  among_wants : (superstep : ℕ) (numbers : List ℕ) (read unread : List Act) (name : List ℕ) (count : ℕ)
      → flat_map (Of superstep) numbers ≡ read ++ wants name count ∷ unread → OfNode superstep name count
  among_wants superstep [] [] unread name count e = cc
  among_wants superstep [] (act ∷ read) unread name count e = cc
  among_wants superstep (n ∷ numbers) read unread name count e =
      elim (of_node superstep n (slice_get core.nodes n) refl (flat_map (Of superstep) numbers) read unread name count e) [
        | inl here ↦ here
        | inr later ↦ among_wants superstep numbers later.0 unread name count later.1
      ]

  -- what is written

  module _ (log : List ℕ) where
    abbrev pub Logged : ℕ → Pairs
    Logged superstep = logged log (log_lines core (start core good) (superstep - 1))

    blocks_written : (supersteps : List ℕ) → flat_map (λ done. written (logging core good log done)) supersteps
        ≡ logged log (flat_map (superstep_blocks core (start core good)) supersteps)
    blocks_written [] = refl
    blocks_written (superstep ∷ supersteps) =
        (λ i. all_written (logged log (superstep_blocks core (start core good) superstep)) i ++ blocks_written supersteps i)
        ∙ sym (map-append (λ line. (log, line)) (superstep_blocks core (start core good) superstep) (flat_map (superstep_blocks core (start core good)) supersteps))

    -- the start and the supersteps before one
    log_written : (superstep : ℕ) (wrote : Pairs)
        → wrote ≡ flat_map (λ done. written (logging core good log done)) (range_with_len 1 (superstep - 1))
        → written (start_acts core good log) ++ wrote ≡ Logged superstep
    log_written superstep wrote is =
        (λ i. all_written (logged log (block core End 0 (start core good))) i ++ (is ∙ blocks_written (range_with_len 1 (superstep - 1))) i)
        ∙ sym (map-append (λ line. (log, line)) (block core End 0 (start core good))
        (flat_map (superstep_blocks core (start core good)) (range_with_len 1 (superstep - 1))))

    blocks_of_rounds : (supersteps : List ℕ) → written (round_acts (reading core good true steps) (logging core good log) supersteps)
        ≡ flat_map (λ done. written (logging core good log done)) supersteps
    blocks_of_rounds [] = refl
    blocks_of_rounds (superstep ∷ supersteps) =
        let reads : List Act = reading core good true steps superstep in
        let writes : List Act = logging core good log superstep in
        written-append (reads ++ writes) (round_acts (reading core good true steps) (logging core good log) supersteps)
        ∙ (λ i. written-append reads writes i ++ blocks_of_rounds supersteps i)
        ∙ ap (λ (pairs : Pairs). (pairs ++ written writes) ++ flat_map (λ done. written (logging core good log done)) supersteps)
        (wants_quiet core good 1 steps superstep (length core.nodes)).0

    all_logged : (superstep : ℕ) → written (logged_acts core good log steps (superstep - 1)) ≡ Logged superstep
    all_logged superstep =
        written-append (start_acts core good log) (round_acts (reading core good true steps) (logging core good log) (range_with_len 1 (superstep - 1)))
        ∙ log_written superstep (written (round_acts (reading core good true steps) (logging core good log) (range_with_len 1 (superstep - 1))))
        (blocks_of_rounds (range_with_len 1 (superstep - 1)))

    abbrev ForRound : List Act → List ℕ → ℕ → Type 0
    ForRound before name count = IsForRound core good true steps (λ superstep. Logged superstep) before name count

    for_round : (superstep : ℕ) (before : List Act) (name : List ℕ) (count : ℕ) → IsRound 1 steps superstep → OfNode superstep name count
        → written before ≡ Logged superstep → ForRound before name count
    for_round superstep before name count is_round of wrote = record {
      round = superstep;
      is_round = is_round;
      node = of.node;
      stream = of.stream;
      at = of.at;
      is_port = of.is_port;
      is_needed = of.is_needed;
      wrote = wrote;
    }

    -- a want among the supersteps that are made
    made_wants : (made : ℕ) → made ≤ rounds_of 1 steps → (before later : List Act) (name : List ℕ) (count : ℕ)
        → logged_acts core good log steps made ≡ before ++ wants name count ∷ later → ForRound before name count
    made_wants made within before later name count e =
        let rounds : List Act = round_acts (reading core good true steps) (logging core good log) (range_with_len 1 made) in
        elim (split (start_acts core good log) rounds before (wants name count) later e) [
          | inl here ↦ absurd (no_want_of_writes (logged log (block core End 0 (start core good))) [] before here.0 name count
              (append-nil (start_acts core good log) ∙ here.1))
          | inr there ↦ (
              let stands = stands_in_round (reading core good true steps) (logging core good log)
              (λ superstep. (wants_quiet core good 1 steps superstep (length core.nodes)).0)
              (λ superstep. writes_read_nothing (logged log (superstep_blocks core (start core good) superstep)))
              (range_with_len 1 made) there.0 later name count there.2 in
              let at = split_range 1 made stands.earlier stands.later stands.round stands.in_order in
              let most = at.most in
              for_round stands.round before name count (counted_round 1 steps (omega arith) stands.round at.least (omega (arith, most, within)))
              (among_wants stands.round (range_with_len 0 (length core.nodes)) stands.read stands.unread name count stands.is)
              (ap written there.1 ∙ written-append (start_acts core good log) there.0
              ∙ log_written stands.round (written there.0)
              (stands.wrote ∙ ap (flat_map (λ done. written (logging core good log done))) at.is_range)))
        ]

    -- a want before the superstep that is blocked
    blocked_wants : (inputs : Inputs) → inputs.good ≡ good → (superstep : ℕ) (by : Option ℕ) → IsRound 1 steps superstep
        → (before first later : List Act) (name : List ℕ) (count : ℕ) → before ≡ logged_acts core good log steps (superstep - 1) ++ first
        → blocked_acts core inputs true steps superstep by ≡ first ++ wants name count ∷ later → ForRound before name count
    blocked_wants inputs same superstep None is_round before [] later name count is e = cc
    blocked_wants inputs same superstep None is_round before (act ∷ first) later name count is e = cc
    blocked_wants inputs same superstep (Some n) is_round before first later name count is e =
        let reads : List (List Value) → List Act = λ values. round_wants core values 1 steps superstep (n + 1) in
        let bad : Pairs = bad_value_writes core inputs (Some n) in
        let here : reads good ++ write_each bad ≡ first ++ wants name count ∷ later = sym (ap (λ values. reads values ++ write_each bad) same) ∙ e in
        elim (split (reads good) (write_each bad) first (wants name count) later here) [
          | inl read ↦ (
              let silent : written first ≡ [] =
              nothing_before (written first) (written (wants name count ∷ read.0))
              (sym (written-append first (wants name count ∷ read.0)) ∙ ap written (sym read.1) ∙ (wants_quiet core good 1 steps superstep (n + 1)).0) in
              for_round superstep before name count is_round (among_wants superstep (range_with_len 0 (n + 1)) first read.0 name count read.1)
              (ap written is ∙ written-append (logged_acts core good log steps (superstep - 1)) first
              ∙ ap (λ (pairs : Pairs). written (logged_acts core good log steps (superstep - 1)) ++ pairs) silent
              ∙ append-nil (written (logged_acts core good log steps (superstep - 1))) ∙ all_logged superstep))
          | inr last ↦ absurd (no_want_of_writes bad [] last.0 later name count (append-nil (write_each bad) ∙ last.2))
        ]

all_supersteps : (steps : ℕ) → rounds_of 1 steps ≡ steps
all_supersteps steps =
    let times : steps * 1 ≡ steps = omega arith in
    ap (rounds_of 1) (sym times) ∙ whole_rounds 1 (omega arith) steps

module _ (core : Core) (coming : Inputs) (steps : ℕ) (log : List ℕ) (before : List Act) (name : List ℕ) (count : ℕ) where
  abbrev Standing : Type 0
  Standing = ForRound core coming.good steps log before name count

  by_blocked : (o : Option ℕ) → blocked_superstep core coming steps ≡ o → (later : List Act)
      → logged_acts core coming.good log steps (before_blocked steps o) ++ blocked_end core coming steps o ≡ before ++ wants name count ∷ later → Standing
  by_blocked None is later e =
      let all = all_supersteps steps in
      made_wants core coming.good steps log steps (omega (arith, all)) before later name count
      (sym (append-nil (logged_acts core coming.good log steps steps)) ∙ e)
  by_blocked (Some superstep) is later e =
      let first = found (λ r. is_some (blocked_by core coming true steps r)) 1 (rounds_of 1 steps) superstep is in
      let least = first.least in
      let most = first.most in
      elim (split (logged_acts core coming.good log steps (superstep - 1)) (blocked_end core coming steps (Some superstep)) before (wants name count) later e) [
        | inl here ↦ made_wants core coming.good steps log (superstep - 1) (omega (arith, most)) before here.0 name count here.1
        | inr there ↦ blocked_wants core coming.good steps log coming refl superstep (blocked_by core coming true steps superstep)
            (counted_round 1 steps (omega arith) superstep least (omega (arith, most))) before there.0 later name count there.1 there.2
      ]

  -- a want of a recorded run
  pub record_want : (later : List Act) → (owed_record steps core coming log).acts ≡ before ++ wants name count ∷ later → Standing
  record_want later e = elim (split (record_acts core coming log steps) (finish_each (log ∷ std_out ∷ [])) before (wants name count) later e) [
    | inl here ↦ by_blocked (blocked_superstep core coming steps) refl here.0 here.1
    | inr last ↦ absurd (no_want_of_writes [] (log ∷ std_out ∷ []) last.0 later name count last.2)
  ]
