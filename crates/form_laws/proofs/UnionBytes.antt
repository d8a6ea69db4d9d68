-- An output stream's port gets from a union what it gets from a run of its program alone, of as many supersteps as the union makes.
use Rattle.std.proofs.Common.{◌≡◌, ℕ, ◌+◌, ◌-◌, ◌*◌, ◌≤◌, Bool, false, List, [], ◌++◌, Option, Some, None, slice_get, refl, ap, sym, ◌∙◌, subst, arith, inr, append-nil}
use Rattle.std.specs.List.{All, flat_map, range_with_len}
use Rattle.std.specs.Option.{is_some}
use Rattle.std.specs.Str.{bytes_eq}
use Rattle.hume_model.specs.declared.core_tree.NodeC.TheVariants.{To}
use Rattle.hume_model.specs.declared.core_tree.StreamC.{StreamC}
use Rattle.hume_model.specs.declared.core_tree.Core.{Core}
use Rattle.hume_model.specs.WellFormed.{IsWellFormed}
use Rattle.hume_net.specs.Start.{start}
use Rattle.hume_net.specs.rounds.Blocked.{blocking}
use Rattle.hume_net.specs.rounds.Rounds.{rounds_of}
use Rattle.hume_net.proofs.rounds_lemmas.RoundCounts.{counted_round}
use Rattle.hume_ports.specs.Delivery.{Pairs, bytes_for}
use Rattle.hume_ports.proofs.Names.{bytes_for-append}
use Rattle.net_costs.specs.Steps.{peaks}
use Rattle.port_acts.specs.Acts.{Act, written, write_each}
use Rattle.port_acts.proofs.ActLists.{written-append}
use Rattle.port_acts.proofs.Each.{all_written}
use Rattle.run_rounds.specs.Inputs.{Inputs, is_bad}
use Rattle.run_rounds.specs.Members.{MemberView, member_bad_writes, member_lines, members_acts, members_until}
use Rattle.run_rounds.specs.RunActs.{blocked_wants, made_until, reading, run_acts, writing}
use Rattle.run_rounds.specs.Streams.{ArePortsApart, std_out}
use Rattle.run_rounds.specs.Writes.{blocked_by, blocked_round, peak_writes, rounds_writes, span_of, writes_until}
use Rattle.run_rounds.proofs.LawsOfActs.{rounds_write, run_writes, wants_quiet}
use Rattle.trace_print.specs.TraceLines.{peak_lines, peak_there}
use Rattle.union_laws.specs.Union.{united_all}
use Rattle.form_laws.specs.Unions.{IsLeastOf, made_before, own_inputs, supersteps_made}
use Rattle.form_laws.proofs.Found.{first_found}
use Rattle.form_laws.proofs.MadeSupersteps.{shorter_rounds, shorter_unblocked, some_span}
use Rattle.form_laws.proofs.OwnBytes.{same_rounds}
use Rattle.form_laws.proofs.OwnRounds.{BlocksProgram, first_of_programs, free_program, own_blocked}
use Rattle.form_laws.proofs.PortBytes.{told_silent}

-- how many rounds a run makes, by its first blocked one
abbrev pub rounds_until : ℕ → ℕ → Option ℕ → ℕ
rounds_until span steps None = rounds_of span steps
rounds_until span steps (Some round) = round - 1

module _ (core : Core) (inputs : Inputs) (traced : Bool) (steps : ℕ) where
  wants_write_nothing : (round : ℕ) (by : Option ℕ) → written (blocked_wants core inputs traced steps round by) ≡ []
  wants_write_nothing round None = refl
  wants_write_nothing round (Some n) = (wants_quiet core inputs.good (span_of traced) steps round (n + 1)).0

  -- the rounds that are made write their lines
  made_write : (o : Option ℕ)
      → written (made_until core inputs traced steps o) ≡ rounds_writes core inputs.good traced steps (rounds_until (span_of traced) steps o)
  made_write None = rounds_write core inputs.good traced steps (range_with_len 1 (rounds_of (span_of traced) steps))
  made_write (Some round) =
      let made : List Act = flat_map (λ r. reading core inputs.good traced steps r ++ writing core inputs.good traced steps r) (range_with_len 1 (round - 1)) in
      written-append made (blocked_wants core inputs traced steps round (blocked_by core inputs traced steps round))
      ∙ (λ i. rounds_write core inputs.good traced steps (range_with_len 1 (round - 1)) i
      ++ wants_write_nothing round (blocked_by core inputs traced steps round) i)
      ∙ append-nil (rounds_writes core inputs.good traced steps (round - 1))

  module _ (name : List ℕ) (other : bytes_eq name std_out ≡ false) where
    members_silent : (members : List MemberView) (o : Option ℕ) → bytes_for name (members_until core members inputs traced steps o) ≡ []
    members_silent members None =
        told_silent name (member_lines (λ n. peak_there (peaks core (start core inputs.good) steps n) (slice_get core.nodes n)) 0 members) other
    members_silent members (Some round) = by (blocked_by core inputs traced steps round)
      where
        by : (p : Option ℕ) → bytes_for name (member_bad_writes core members inputs p) ≡ []
        by None = refl
        by (Some n) = rw other refl

    -- what is written to another port than `std_out` are the lines of the rounds
    pub members_bytes : (members : List MemberView) → bytes_for name (written (members_acts core members inputs traced steps))
        ≡ bytes_for name (rounds_writes core inputs.good traced steps (rounds_until (span_of traced) steps (blocked_round core inputs (span_of traced) steps)))
    members_bytes members =
        let o : Option ℕ = blocked_round core inputs (span_of traced) steps in
        ap (bytes_for name) (written-append (made_until core inputs traced steps o) (write_each (members_until core members inputs traced steps o)))
        ∙ bytes_for-append name (written (made_until core inputs traced steps o)) (written (write_each (members_until core members inputs traced steps o)))
        ∙ (λ i. bytes_for name (made_write o i) ++ bytes_for name (all_written (members_until core members inputs traced steps o) i))
        ∙ ap (λ bytes. bytes_for name (rounds_writes core inputs.good traced steps (rounds_until (span_of traced) steps o)) ++ bytes) (members_silent members o)
        ∙ append-nil (bytes_for name (rounds_writes core inputs.good traced steps (rounds_until (span_of traced) steps o)))

    -- a run that isn't blocked writes the lines of all its rounds
    pub unblocked_bytes : blocked_round core inputs (span_of traced) steps ≡ None
        → bytes_for name (written (run_acts core inputs traced steps))
        ≡ bytes_for name (rounds_writes core inputs.good traced steps (rounds_of (span_of traced) steps))
    unblocked_bytes none =
        let all : Pairs = rounds_writes core inputs.good traced steps (rounds_of (span_of traced) steps) in
        ap (bytes_for name) (run_writes core inputs traced steps ∙ ap (writes_until core inputs traced steps) none)
        ∙ bytes_for-append name all (peak_writes core inputs.good steps)
        ∙ ap (λ bytes. bytes_for name all ++ bytes) (told_silent name (peak_lines core (peaks core (start core inputs.good) steps)) other)
        ∙ append-nil (bytes_for name all)

module _ (programs : List Core) (formed : All IsWellFormed programs) (apart : ArePortsApart (united_all programs))
    (place : ℕ) (program : Core) (found : slice_get programs place ≡ Some program) (n : ℕ) (stream : StreamC)
    (at : slice_get program.nodes n ≡ Some (To stream))
    (other : bytes_eq stream.port std_out ≡ false) (coming : Inputs) (traced : Bool) (steps : ℕ) where
  abbrev union : Core
  union = united_all programs

  abbrev own : Inputs
  own = own_inputs programs place program coming

  abbrev span : ℕ
  span = span_of traced

  abbrev port : List ℕ
  port = stream.port

  same_made : (count : ℕ)
      → bytes_for port (rounds_writes union coming.good traced steps count) ≡ bytes_for port (rounds_writes program own.good traced steps count)
  same_made count = same_rounds programs formed apart place program found coming n stream at traced (inr other) steps count

  -- what the program alone writes in so many supersteps
  abbrev alone : ℕ → List ℕ
  alone made = bytes_for port (written (run_acts program own traced made))

  unblocked : (o : Option ℕ) → IsLeastOf (BlocksProgram programs coming span steps) None → own_blocked programs place program coming span steps ≡ o
      → own_blocked programs place program coming span steps ≡ None
  unblocked None none is = is
  unblocked (Some round) none is = absurd (none round (place, program, found, is))

  by_blocked : (o : Option ℕ) → blocked_round union coming span steps ≡ o
      → bytes_for port (rounds_writes union coming.good traced steps (rounds_until span steps o)) ≡ alone (made_before span steps o)
  by_blocked None is =
      let none = subst (IsLeastOf (BlocksProgram programs coming span steps)) is (first_of_programs programs formed coming span steps) in
      same_made (rounds_of span steps)
      ∙ sym (unblocked_bytes program own traced steps port other (unblocked (own_blocked programs place program coming span steps) none refl))
  by_blocked (Some round) is =
      let first = first_found (λ r. is_some (blocking union coming.good (is_bad coming) span steps r)) 1 (rounds_of span steps) round is in
      let most = first.most in
      let round_is = counted_round span steps (some_span traced) round first.least (omega (arith, most)) in
      let inside = round_is.begins_within in
      let enough : (round - 1) * span ≤ steps = omega (arith, inside) in
      let least = first.least in
      let free = shorter_unblocked program own span (some_span traced) steps (round - 1) enough (λ r low high.
      free_program programs formed coming span steps place program found r (first.before r low (omega (arith, high, least)))) in
      same_made (round - 1)
      ∙ ap (bytes_for port) (sym (shorter_rounds program own.good traced steps (round - 1) enough))
      ∙ sym (unblocked_bytes program own traced ((round - 1) * span) port other free)

  pub union_bytes : (members : List MemberView) → bytes_for port (written (members_acts union members coming traced steps))
      ≡ alone (supersteps_made union coming traced steps)
  union_bytes members =
      members_bytes union coming traced steps port other members ∙ by_blocked (blocked_round union coming span steps) refl
