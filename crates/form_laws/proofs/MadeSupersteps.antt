-- The rounds before the first blocked one are all rounds of a run of fewer supersteps, in which none is blocked.
use Rattle.std.proofs.Common.{◌≡◌, ℕ, zero, suc, ◌+◌, ◌-◌, ◌*◌, ◌<◌, ◌≤◌, ◌&&◌, nat_lt, Bool, true, false, List, [], ◌++◌, length, Option, None, refl, ap, sym, ◌∙◌, arith, inl, inr}
use Rattle.std.specs.List.{find, flat_map, range_with_len}
use Rattle.std.specs.Option.{is_some}
use Rattle.std.proofs.Math.Nat.{min-eq_left}
use Rattle.std.proofs.lemmas.Bool.{cases_lt}
use Rattle.std.proofs.lemmas.Grind.{div_ceil_times}
use Rattle.std.proofs.lemmas.Nat.{mul-le}
use Rattle.hume_base.specs.declared.types.Value.{Value}
use Rattle.hume_model.specs.declared.core_tree.Core.{Core}
use Rattle.hume_net.specs.declared.state.State.{State}
use Rattle.hume_net.specs.Lockstep.{lockstep}
use Rattle.hume_net.specs.Sides.{on_wire, part_of}
use Rattle.hume_net.specs.Start.{start}
use Rattle.hume_net.specs.rounds.Blocked.{blocking}
use Rattle.hume_net.specs.rounds.Rounds.{begins, length_of, rounds_of}
use Rattle.hume_net.specs.rounds.Streams.{asserted_between, gained}
use Rattle.hume_ports.specs.Delivery.{Pairs}
use Rattle.run_rounds.specs.Inputs.{Inputs, is_bad}
use Rattle.run_rounds.specs.Writes.{blocked_round, round_writes, rounds_writes, span_of, superstep_lines, told, writes_of_nodes}
use Rattle.form_laws.proofs.Found.{finds_none}

same_pairs : (f g : ℕ → Pairs) (from count : ℕ) → ((k : ℕ) → from ≤ k → k < from + count → f k ≡ g k)
    → flat_map f (range_with_len from count) ≡ flat_map g (range_with_len from count)
same_pairs f g from zero same = refl
same_pairs f g from (suc count) same = λ i.
    same from (omega arith) (omega arith) i ++ same_pairs f g (from + 1) count (λ k low high. same k (omega (arith, low)) (omega (arith, high))) i

pub some_span : (traced : Bool) → 1 ≤ span_of traced
some_span true = omega arith
some_span false = omega arith

-- so many whole rounds
module _ (span : ℕ) (some : 1 ≤ span) (count : ℕ) where
  pub whole_rounds : rounds_of span (count * span) ≡ count
  whole_rounds =
      let bounds = div_ceil_times (count * span) span (omega (arith, some)) in
      let rounds : ℕ = rounds_of span (count * span) in
      let enough : count ≤ rounds = elim (cases_lt rounds count) [
        | inl less ↦ (
            let wide = mul-le (suc rounds) span count span less (omega arith) in
            let more : suc rounds * span ≡ rounds * span + span = omega arith in
            let least = bounds.0 in
            absurd (omega (arith, wide, more, least, some)))
        | inr is ↦ is
      ] in
      let few : rounds ≤ count = elim (cases_lt count rounds) [
        | inl less ↦ (
            let wide = mul-le (suc count) span rounds span less (omega arith) in
            let more : suc count * span ≡ count * span + span = omega arith in
            let most = bounds.1 in
            absurd (omega (arith, wide, more, most)))
        | inr is ↦ is
      ] in
      omega (arith, enough, few)

  -- each is as long as it was
  whole_length : (steps round : ℕ) → count * span ≤ steps → 1 ≤ round → round ≤ count → length_of span steps round ≡ span
  whole_length steps zero enough low high = absurd (omega (arith, low))
  whole_length steps (suc done) enough low high =
      let back : suc done - 1 ≡ done = omega arith in
      let at : begins span (suc done) ≡ done * span = ap (λ k. k * span) back in
      let wide = mul-le (suc done) span count span high (omega arith) in
      let more : suc done * span ≡ done * span + span = omega arith in
      min-eq_left (omega (arith, at, wide, more, enough))

  pub same_length : (steps round : ℕ) → count * span ≤ steps → 1 ≤ round → round ≤ count → length_of span (count * span) round ≡ length_of span steps round
  same_length steps round enough low high =
      let least : count * span ≤ count * span = omega arith in
      whole_length (count * span) round least low high ∙ sym (whole_length steps round enough low high)

module _ (core : Core) (good : List (List Value)) where
  -- what is written after a round, by how many supersteps are made when it is over
  abbrev trace_over : Bool → ℕ → ℕ → Pairs
  trace_over true round over = told (superstep_lines core round (on_wire (lockstep core (start core good) over)))
  trace_over false round over = []

  abbrev round_over : Bool → ℕ → ℕ → Pairs
  round_over traced round over =
      writes_of_nodes core (gained (lockstep core (start core good) (begins (span_of traced) round)) (lockstep core (start core good) over))
      ++ trace_over traced round over

  same_round : (traced : Bool) (steps short round : ℕ) → length_of (span_of traced) short round ≡ length_of (span_of traced) steps round
      → round_writes core good traced short round ≡ round_writes core good traced steps round
  same_round true steps short round same = ap (λ more. round_over true round (begins (span_of true) round + more)) same
  same_round false steps short round same = ap (λ more. round_over false round (begins (span_of false) round + more)) same

  -- a run of so many whole rounds writes what they write in a longer run
  pub shorter_rounds : (traced : Bool) (steps count : ℕ) → count * span_of traced ≤ steps
      → rounds_writes core good traced (count * span_of traced) (rounds_of (span_of traced) (count * span_of traced))
      ≡ rounds_writes core good traced steps count
  shorter_rounds traced steps count enough =
      let short : ℕ = count * span_of traced in
      ap (rounds_writes core good traced short) (whole_rounds (span_of traced) (some_span traced) count)
      ∙ same_pairs (round_writes core good traced short) (round_writes core good traced steps) 1 count
      (λ round low high. same_round traced steps short round
      (same_length (span_of traced) (some_span traced) count steps round enough low (omega (arith, high))))

-- and is not blocked where none of these rounds is
module _ (core : Core) (inputs : Inputs) (span : ℕ) (some : 1 ≤ span) (steps count : ℕ) (enough : count * span ≤ steps) where
  abbrev first_state : State
  first_state = start core inputs.good

  abbrev blocking_with : ℕ → ℕ → Option ℕ
  blocking_with round more = find (λ node. is_bad inputs node
      && nat_lt (length (part_of first_state node).coming)
      (length (asserted_between first_state (lockstep core first_state (begins span round)) node) + more)) (range_with_len 0 (length core.nodes))

  same_blocking : (round : ℕ) → 1 ≤ round → round ≤ count
      → blocking core inputs.good (is_bad inputs) span (count * span) round ≡ blocking core inputs.good (is_bad inputs) span steps round
  same_blocking round low high = ap (blocking_with round) (same_length span some count steps round enough low high)

  pub shorter_unblocked : ((round : ℕ) → 1 ≤ round → round ≤ count → is_some (blocking core inputs.good (is_bad inputs) span steps round) ≡ false)
      → blocked_round core inputs span (count * span) ≡ None
  shorter_unblocked free =
      ap (λ rounds. find (λ round. is_some (blocking core inputs.good (is_bad inputs) span (count * span) round)) (range_with_len 1 rounds))
      (whole_rounds span some count)
      ∙ finds_none (λ round. is_some (blocking core inputs.good (is_bad inputs) span (count * span) round)) 1 count
      (λ round low high. let within : round ≤ count = omega (arith, high) in ap is_some (same_blocking round low within) ∙ free round low within)
