-- What recorded runs write, what verified runs write and finish, and which logs hold.
use Rattle.std.proofs.Common.{◌≡◌, ℕ, ◌+◌, ◌-◌, true, false, List, [], ◌∷◌, ◌++◌, length, Option, None, Some, refl, ap, sym, ◌∙◌, append-nil}
use Rattle.std.proofs.lemmas.List.{map-append}
use Rattle.std.proofs.lemmas.Grind.{flat_map-append}
use Rattle.std.specs.List.{concat, flat_map, range_with_len}
use Rattle.std.specs.Str.{bytes_eq}
use Rattle.hume_base.specs.declared.types.Value.{Value}
use Rattle.hume_model.specs.declared.core_tree.Core.{Core}
use Rattle.hume_net.specs.declared.state.State.{State}
use Rattle.hume_net.specs.Start.{start}
use Rattle.hume_ports.specs.Delivery.{Pairs, bytes_for}
use Rattle.hume_ports.proofs.Names.{bytes_eq-self, bytes_for-append}
use Rattle.port_acts.specs.Acts.{Act, finished, finished_by, writes, written, write_each}
use Rattle.port_acts.proofs.ActLists.{written-append}
use Rattle.port_acts.proofs.Each.{all_written, writes_finish_nothing}
use Rattle.run_log.specs.declared.half.Half.{Half}
use Rattle.run_log.specs.declared.half.Half.TheVariants.{Mid, End}
use Rattle.run_log.specs.Logs.{block, log_lines, log_of, superstep_blocks}
use Rattle.run_rounds.specs.Inputs.{Inputs}
use Rattle.run_rounds.specs.RunActs.{blocked_acts, blocked_wants, reading, round_wants}
use Rattle.run_rounds.specs.Streams.{std_out}
use Rattle.run_rounds.specs.Writes.{bad_value_writes, blocked_by}
use Rattle.run_rounds.proofs.LawsOfActs.{wants_quiet}
use Rattle.log_rounds.specs.declared.verdict.Verdict.TheVariants as verdict
use Rattle.log_rounds.specs.Outcomes as found
use Rattle.log_rounds.specs.Outcomes.{IsOutcome, Outcome, is_held, is_wrong, is_longer, is_blocked, verdict_of}
use Rattle.log_rounds.specs.RecordActs.{logged, logged_acts, logging, record_acts, start_acts}
use Rattle.log_rounds.specs.Supersteps.{blocked_end, blocked_superstep, supersteps_made}
use Rattle.log_rounds.specs.VerifyActs.{acts_through, acts_to_end, agreeing, agreeing_acts, compared, outcome_line, verify_acts, verify_reads}
use Rattle.log_rounds.proofs.Outcomes.{one_outcome}
use Rattle.log_rounds.proofs.Supersteps.{stopped}

finished-append : (ps qs : List Act) → finished (ps ++ qs) ≡ finished ps ++ finished qs
finished-append ps qs = flat_map-append finished_by ps qs

-- the bytes of the lines of a log
lines_bytes : (log : List ℕ) (lines : List (List ℕ)) → bytes_for log (logged log lines) ≡ concat lines
lines_bytes log [] = refl
lines_bytes log (line ∷ lines) = rw (bytes_eq-self log) (ap (λ more. line ++ more) (lines_bytes log lines))

-- acts that only read
abbrev IsQuiet : List Act → Type 0
IsQuiet acts = (written acts ≡ []) × (finished acts ≡ [])

quiet_on : (ps qs : List Act) → IsQuiet ps → IsQuiet qs → IsQuiet (ps ++ qs)
quiet_on ps qs p q = (written-append ps qs ∙ rw (p.0, q.0) refl, finished-append ps qs ∙ rw (p.1, q.1) refl)

module _ (core : Core) (log : List ℕ) (steps : ℕ) where
  module _ (good : List (List Value)) where
    abbrev First : State
    First = start core good

    rounds_write : (rounds : List ℕ)
        → written (flat_map (λ round. reading core good true steps round ++ logging core good log round) rounds) ≡ logged log (flat_map (superstep_blocks core First) rounds)
    rounds_write [] = refl
    rounds_write (round ∷ rounds) =
        let read : List Act = reading core good true steps round in
        let wrote : List Act = logging core good log round in
        let later : List Act = flat_map (λ r. reading core good true steps r ++ logging core good log r) rounds in
        written-append (read ++ wrote) later
        ∙ ap (λ (pairs : Pairs). pairs ++ written later)
        (written-append read wrote ∙ ap (λ (pairs : Pairs). pairs ++ written wrote) (wants_quiet core good 1 steps round (length core.nodes)).0
        ∙ all_written (logged log (superstep_blocks core First round)))
        ∙ ap (λ (pairs : Pairs). logged log (superstep_blocks core First round) ++ pairs) (rounds_write rounds)
        ∙ sym (map-append (λ line. (log, line)) (superstep_blocks core First round) (flat_map (superstep_blocks core First) rounds))

    rounds_finish : (rounds : List ℕ) → finished (flat_map (λ round. reading core good true steps round ++ logging core good log round) rounds) ≡ []
    rounds_finish [] = refl
    rounds_finish (round ∷ rounds) =
        let read : List Act = reading core good true steps round in
        let wrote : List Act = logging core good log round in
        finished-append (read ++ wrote) (flat_map (λ r. reading core good true steps r ++ logging core good log r) rounds)
        ∙ rw (
          finished-append read wrote,
          (wants_quiet core good 1 steps round (length core.nodes)).1,
          writes_finish_nothing (logged log (superstep_blocks core First round)),
          rounds_finish rounds,
        ) refl

    logged_write : (count : ℕ) → written (logged_acts core good log steps count) ≡ logged log (log_lines core First count)
    logged_write count =
        let later : List Act = flat_map (λ r. reading core good true steps r ++ logging core good log r) (range_with_len 1 count) in
        written-append (start_acts core good log) later
        ∙ ap (λ (pairs : Pairs). pairs ++ written later) (all_written (logged log (block core End 0 First)))
        ∙ ap (λ (pairs : Pairs). logged log (block core End 0 First) ++ pairs) (rounds_write (range_with_len 1 count))
        ∙ sym (map-append (λ line. (log, line)) (block core End 0 First) (flat_map (superstep_blocks core First) (range_with_len 1 count)))

    logged_finish : (count : ℕ) → finished (logged_acts core good log steps count) ≡ []
    logged_finish count =
        finished-append (start_acts core good log) (flat_map (λ r. reading core good true steps r ++ logging core good log r) (range_with_len 1 count))
        ∙ rw (writes_finish_nothing (logged log (block core End 0 First)), rounds_finish (range_with_len 1 count)) refl

    -- the reads of a run by which a log is verified
    agreeing_quiet : (superstep : ℕ) → IsQuiet (agreeing core good log steps superstep)
    agreeing_quiet superstep = quiet_on (reading core good true steps superstep) _ (wants_quiet core good 1 steps superstep (length core.nodes)) (refl, refl)

    all_quiet : (rounds : List ℕ) → IsQuiet (flat_map (agreeing core good log steps) rounds)
    all_quiet [] = (refl, refl)
    all_quiet (round ∷ rounds) =
        quiet_on (agreeing core good log steps round) (flat_map (agreeing core good log steps) rounds) (agreeing_quiet round) (all_quiet rounds)

    supersteps_quiet : (count : ℕ) → IsQuiet (agreeing_acts core good log steps count)
    supersteps_quiet count = all_quiet (range_with_len 1 count)

    through_quiet : (half : Half) (superstep : ℕ) → IsQuiet (acts_through core good log steps half superstep)
    through_quiet End superstep = supersteps_quiet superstep
    through_quiet Mid superstep =
        quiet_on (agreeing_acts core good log steps (superstep - 1) ++ reading core good true steps superstep) (compared core good log Mid superstep ∷ [])
        (quiet_on (agreeing_acts core good log steps (superstep - 1)) (reading core good true steps superstep) (supersteps_quiet (superstep - 1))
        (wants_quiet core good 1 steps superstep (length core.nodes))) (refl, refl)

    to_end_quiet : IsQuiet (acts_to_end core good log steps)
    to_end_quiet = quiet_on (agreeing_acts core good log steps steps) _ (supersteps_quiet steps) (refl, refl)

  module _ (inputs : Inputs) where
    blocked_write : (superstep : ℕ) (o : Option ℕ) → written (blocked_acts core inputs true steps superstep o) ≡ bad_value_writes core inputs o
    blocked_write superstep None = refl
    blocked_write superstep (Some n) =
        written-append (round_wants core inputs.good 1 steps superstep (n + 1)) (write_each (bad_value_writes core inputs (Some n)))
        ∙ rw ((wants_quiet core inputs.good 1 steps superstep (n + 1)).0) (all_written (bad_value_writes core inputs (Some n)))

    blocked_finish : (superstep : ℕ) (o : Option ℕ) → finished (blocked_acts core inputs true steps superstep o) ≡ []
    blocked_finish superstep None = refl
    blocked_finish superstep (Some n) =
        finished-append (round_wants core inputs.good 1 steps superstep (n + 1)) (write_each (bad_value_writes core inputs (Some n)))
        ∙ rw ((wants_quiet core inputs.good 1 steps superstep (n + 1)).1) (writes_finish_nothing (bad_value_writes core inputs (Some n)))

    end_finish : (o : Option ℕ) → finished (blocked_end core inputs steps o) ≡ []
    end_finish None = refl
    end_finish (Some superstep) = blocked_finish superstep (blocked_by core inputs true steps superstep)

    -- what is written at a blocked superstep
    abbrev pub end_writes : Option ℕ → Pairs
    end_writes None = []
    end_writes (Some superstep) = bad_value_writes core inputs (blocked_by core inputs true steps superstep)

    end_written : (o : Option ℕ) → written (blocked_end core inputs steps o) ≡ end_writes o
    end_written None = refl
    end_written (Some superstep) = blocked_write superstep (blocked_by core inputs true steps superstep)

    pub record_written : written (record_acts core inputs log steps)
        ≡ logged log (log_lines core (start core inputs.good) (supersteps_made core inputs steps)) ++ end_writes (blocked_superstep core inputs steps)
    record_written =
        let made : List Act = logged_acts core inputs.good log steps (supersteps_made core inputs steps) in
        let end : List Act = blocked_end core inputs steps (blocked_superstep core inputs steps) in
        let lines : List (List ℕ) = log_lines core (start core inputs.good) (supersteps_made core inputs steps) in
        written-append made end
        ∙ ap (λ (pairs : Pairs). pairs ++ written end) (logged_write inputs.good (supersteps_made core inputs steps))
        ∙ ap (λ (pairs : Pairs). logged log lines ++ pairs) (end_written (blocked_superstep core inputs steps))

    -- the bad line doesn't go to the log
    module _ (apart : bytes_eq log std_out ≡ false) where
      bad_elsewhere : (o : Option ℕ) → bytes_for log (bad_value_writes core inputs o) ≡ []
      bad_elsewhere None = refl
      bad_elsewhere (Some n) = rw apart refl

      end_elsewhere : (o : Option ℕ) → bytes_for log (end_writes o) ≡ []
      end_elsewhere None = refl
      end_elsewhere (Some superstep) = bad_elsewhere (blocked_by core inputs true steps superstep)

      pub record_is_log : bytes_for log (written (record_acts core inputs log steps)) ≡ log_of core inputs.good (supersteps_made core inputs steps)
      record_is_log =
          let lines : List (List ℕ) = log_lines core (start core inputs.good) (supersteps_made core inputs steps) in
          ap (bytes_for log) record_written
          ∙ bytes_for-append log (logged log lines) (end_writes (blocked_superstep core inputs steps))
          ∙ ap (λ last. bytes_for log (logged log lines) ++ last) (end_elsewhere (blocked_superstep core inputs steps))
          ∙ append-nil (bytes_for log (logged log lines))
          ∙ lines_bytes log lines

    pub record_finishes : finished (record_acts core inputs log steps) ≡ []
    record_finishes =
        finished-append (logged_acts core inputs.good log steps (supersteps_made core inputs steps)) (blocked_end core inputs steps (blocked_superstep core inputs steps))
        ∙ rw (logged_finish inputs.good (supersteps_made core inputs steps), end_finish (blocked_superstep core inputs steps)) refl

    pub reads_quiet : (outcome : Outcome) → IsQuiet (verify_reads core inputs log steps outcome)
    reads_quiet found.holds = to_end_quiet inputs.good
    reads_quiet (found.fails half superstep fault) = through_quiet inputs.good half superstep
    reads_quiet found.goes_on = to_end_quiet inputs.good
    reads_quiet (found.blocked superstep node) =
        quiet_on (agreeing_acts core inputs.good log steps (superstep - 1)) (blocked_wants core inputs true steps superstep (Some node))
        (supersteps_quiet inputs.good (superstep - 1)) (wants_quiet core inputs.good 1 steps superstep (node + 1))

    pub verify_writes : (outcome : Outcome) → written (verify_acts core inputs log steps outcome) ≡ (std_out, outcome_line core inputs steps outcome) ∷ []
    verify_writes outcome =
        written-append (verify_reads core inputs log steps outcome) (writes std_out (outcome_line core inputs steps outcome) ∷ []) ∙ rw ((reads_quiet outcome).0) refl

    pub verify_finishes : (outcome : Outcome) → finished (verify_acts core inputs log steps outcome) ≡ []
    verify_finishes outcome =
        finished-append (verify_reads core inputs log steps outcome) (writes std_out (outcome_line core inputs steps outcome) ∷ []) ∙ rw ((reads_quiet outcome).1) refl

module _ (core : Core) (inputs : Inputs) (steps : ℕ) (text : List ℕ) where
  -- where a log holds it is the log of the run
  pub held_is : (outcome : Outcome) → IsOutcome core inputs steps text outcome → verdict_of outcome ≡ verdict.Holds
      → (blocked_superstep core inputs steps ≡ None) × (text ≡ log_of core inputs.good steps)
  held_is _ (is_held none is) holds = (none, is)
  held_is _ (is_wrong half superstep fault fails) holds = cc
  held_is _ (is_longer none byte rest is) holds = cc
  held_is _ (is_blocked superstep node stop by rest is) holds = cc

  pub log_holds : (outcome : Outcome) → IsOutcome core inputs steps text outcome → blocked_superstep core inputs steps ≡ None → text ≡ log_of core inputs.good steps
      → verdict_of outcome ≡ verdict.Holds
  log_holds outcome is none same = ap verdict_of (one_outcome core inputs steps text outcome found.holds is (is_held none same))

  pub other_fails : (outcome : Outcome) → IsOutcome core inputs steps text outcome → blocked_superstep core inputs steps ≡ None
      → (text ≡ log_of core inputs.good steps → ⊥) → verdict_of outcome ≡ verdict.Fails
  other_fails _ (is_held none is) free other = absurd (other is)
  other_fails _ (is_wrong half superstep fault fails) free other = refl
  other_fails _ (is_longer none byte rest is) free other = refl
  other_fails _ (is_blocked superstep node stop by rest is) free other =
      (let both : ◌≡◌ {A = Option ℕ} None (Some superstep) = sym free ∙ stop in cc)

  abbrev IsBlockedLog : Type 0
  IsBlockedLog = (superstep : ℕ) × (blocked_superstep core inputs steps ≡ Some superstep) × (rest : List ℕ) × (text ≡ log_of core inputs.good (superstep - 1) ++ rest)

  pub blocked_is : (outcome : Outcome) → IsOutcome core inputs steps text outcome → verdict_of outcome ≡ verdict.Blocked → IsBlockedLog
  blocked_is _ (is_held none is) blocks = cc
  blocked_is _ (is_wrong half superstep fault fails) blocks = cc
  blocked_is _ (is_longer none byte rest is) blocks = cc
  blocked_is _ (is_blocked superstep node stop by rest is) blocks = (superstep, stop, rest, is)

  pub log_blocks : (outcome : Outcome) → IsOutcome core inputs steps text outcome → IsBlockedLog → verdict_of outcome ≡ verdict.Blocked
  log_blocks outcome is its =
      let stop = stopped core inputs steps its.0 its.1 in
      ap verdict_of (one_outcome core inputs steps text outcome (found.blocked its.0 stop.node) is (is_blocked its.0 stop.node its.1 stop.by its.2 its.3))
