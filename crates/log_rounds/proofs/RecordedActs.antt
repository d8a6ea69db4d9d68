-- The acts of a recorded run, superstep by superstep.
use Rattle.std.proofs.Common.{◌≡◌, ℕ, suc, ◌+◌, ◌-◌, ◌<◌, ◌≤◌, true, false, List, ◌++◌, length, Option, None, Some, refl, ap, sym, ◌∙◌, inl, inr, arith, append-nil, append_assoc}
use Rattle.std.proofs.lemmas.Bool.{cases_lt}
use Rattle.std.specs.List.{flat_map, range_with_len}
use Rattle.std.proofs.lemmas.List.{map-append}
use Rattle.hume_base.specs.declared.types.Value.{Value}
use Rattle.hume_model.specs.declared.core_tree.Core.{Core}
use Rattle.hume_net.specs.Start.{start}
use Rattle.hume_net.specs.rounds.Blocked.{blocks}
use Rattle.port_acts.specs.Acts.{Act, write_each}
use Rattle.run_log.specs.declared.half.Half.TheVariants.{Mid, End}
use Rattle.run_log.specs.Moments.{block_at}
use Rattle.run_rounds.specs.Inputs.{Inputs, is_bad}
use Rattle.run_rounds.specs.RunActs.{blocked_acts, reading, round_wants}
use Rattle.run_rounds.specs.Writes.{bad_value_writes, blocked_by}
use Rattle.run_rounds.proofs.ActSteps.{BeginsWith, as_begun, begins_in, more_begin, wants_within}
use Rattle.run_rounds.proofs.Clearings.{each_append}
use Rattle.run_rounds.proofs.Ranges.{flat_more, flat_within}
use Rattle.log_rounds.specs.Supersteps.{before_blocked, blocked_end, blocked_superstep, supersteps_made}
use Rattle.log_rounds.specs.Outcomes.{moment_at}
use Rattle.log_rounds.specs.RecordActs.{logged, logged_acts, logging, record_acts, start_acts}
use Rattle.log_rounds.proofs.Supersteps.{AreFree, blocker_past, made_least, stopped, stops_after}

module _ (core : Core) (log : List ℕ) (steps : ℕ) where
  module _ (good : List (List Value)) where
    abbrev Logged : ℕ → List Act
    Logged count = logged_acts core good log steps count

    -- a block, by its own writes
    abbrev pub noting : List (List ℕ) → List Act
    noting lines = write_each (logged log lines)

    pub logging_is : (superstep : ℕ)
        → logging core good log superstep
        ≡ noting (block_at core (moment_at core (start core good) Mid superstep)) ++ noting (block_at core (moment_at core (start core good) End superstep))
    logging_is superstep =
        let first : List (List ℕ) = block_at core (moment_at core (start core good) Mid superstep) in
        let second : List (List ℕ) = block_at core (moment_at core (start core good) End superstep) in
        ap write_each (map-append (λ line. (log, line)) first second) ∙ each_append (logged log first) (logged log second)

    pub logged_more : (done : ℕ) → Logged (suc done) ≡ Logged done ++ (reading core good true steps (suc done) ++ logging core good log (suc done))
    logged_more done =
        let last : 1 + done ≡ suc done = omega arith in
        let each : ℕ → List Act = λ round. reading core good true steps round ++ logging core good log round in
        ap (λ acts. start_acts core good log ++ acts) (flat_more each 1 done ∙ ap (λ k. flat_map each (range_with_len 1 done) ++ each k) last)
        ∙ sym (append_assoc (start_acts core good log) (flat_map each (range_with_len 1 done)) (each (suc done)))

    pub logged_within : (count total : ℕ) → count ≤ total → BeginsWith (Logged total) (Logged count)
    logged_within count total within =
        let each : ℕ → List Act = λ round. reading core good true steps round ++ logging core good log round in
        let its = flat_within each 1 count total within in
        (its.0, ap (λ acts. start_acts core good log ++ acts) its.1 ∙ sym (append_assoc (start_acts core good log) (flat_map each (range_with_len 1 count)) its.0))

  module _ (inputs : Inputs) where
    abbrev Whole : List Act
    Whole = record_acts core inputs log steps

    abbrev Its : ℕ → List Act
    Its count = Logged inputs.good count

    -- the supersteps that are made come first
    pub made_first : (count : ℕ) → count ≤ supersteps_made core inputs steps → BeginsWith Whole (Its count)
    made_first count within =
        begins_in Whole (Its (supersteps_made core inputs steps)) (Its count) (blocked_end core inputs steps (blocked_superstep core inputs steps), refl)
        (logged_within inputs.good count (supersteps_made core inputs steps) within)

    pub free_first : (count : ℕ) → count ≤ steps → AreFree core inputs steps count → BeginsWith Whole (Its count)
    free_first count within free = made_first count (made_least core inputs steps count within free)

    -- and then the reads up to that of a node that no earlier one blocks
    module _ (done n : ℕ) (less : done < steps) (free : AreFree core inputs steps done) (within : n < length core.nodes)
        (go_on : (m : ℕ) → m < n → blocks core inputs.good (is_bad inputs) 1 steps (suc done) m ≡ false) where
      abbrev Wants : ℕ → List Act
      Wants count = round_wants core inputs.good 1 steps (suc done) count

      in_next : BeginsWith (Its (suc done)) (Its done ++ Wants (n + 1))
      in_next =
          let more : List Act = reading core inputs.good true steps (suc done) ++ logging core inputs.good log (suc done) in
          as_begun (Its done ++ more) (Its (suc done)) (Its done ++ Wants (n + 1)) (logged_more inputs.good done)
          (more_begin (Its done) more (Wants (n + 1))
          (begins_in more (reading core inputs.good true steps (suc done)) (Wants (n + 1)) (logging core inputs.good log (suc done), refl)
          (wants_within core inputs.good 1 steps (suc done) (n + 1) (length core.nodes) (omega (arith, within)))))

      in_blocked : (o : Option ℕ) → blocked_by core inputs true steps (suc done) ≡ o → (node : ℕ) → o ≡ Some node
          → BeginsWith (blocked_acts core inputs true steps (suc done) o) (Wants (n + 1))
      in_blocked None by node is = (let never : ◌≡◌ {A = Option ℕ} None (Some node) = is in cc)
      in_blocked (Some other) by node is =
          let past = blocker_past core inputs steps (suc done) n other by go_on in
          begins_in (Wants (other + 1) ++ write_each (bad_value_writes core inputs (Some other))) (Wants (other + 1)) (Wants (n + 1))
          (write_each (bad_value_writes core inputs (Some other)), refl)
          (wants_within core inputs.good 1 steps (suc done) (n + 1) (other + 1) (omega (arith, past)))

      pub want_first : BeginsWith Whole (Its done ++ Wants (n + 1))
      want_first =
          let least = made_least core inputs steps done (omega (arith, less)) free in
          elim (cases_lt done (supersteps_made core inputs steps)) [
            | inl more ↦ begins_in Whole (Its (suc done)) (Its done ++ Wants (n + 1)) (made_first (suc done) (omega (arith, more))) in_next
            | inr past ↦ (
                let made : supersteps_made core inputs steps ≡ done = omega (arith, past, least) in
                let stop = stops_after core inputs steps done less made in
                let its = stopped core inputs steps (suc done) stop in
                let acts : List Act = blocked_acts core inputs true steps (suc done) (blocked_by core inputs true steps (suc done)) in
                as_begun (Its done ++ acts) Whole (Its done ++ Wants (n + 1))
                (ap (λ k. Its k ++ blocked_end core inputs steps (blocked_superstep core inputs steps)) made
                ∙ ap (λ o. Its done ++ blocked_end core inputs steps o) stop)
                (more_begin (Its done) acts (Wants (n + 1)) (in_blocked (blocked_by core inputs true steps (suc done)) refl its.node its.by)))
          ]

    -- all acts, where no superstep is blocked
    pub all_logged : blocked_superstep core inputs steps ≡ None → Whole ≡ Its steps
    all_logged none =
        ap (λ o. Its (before_blocked steps o) ++ blocked_end core inputs steps o) none ∙ append-nil (Its steps)

    -- and where one is
    pub logged_to_bad : (done node : ℕ) → blocked_superstep core inputs steps ≡ Some (suc done) → blocked_by core inputs true steps (suc done) ≡ Some node
        → Whole ≡ (Its done ++ round_wants core inputs.good 1 steps (suc done) (node + 1)) ++ write_each (bad_value_writes core inputs (Some node))
    logged_to_bad done node stop by =
        let before : suc done - 1 ≡ done = omega arith in
        ap (λ o. Its (before_blocked steps o) ++ blocked_end core inputs steps o) stop
        ∙ ap (λ k. Its k ++ blocked_acts core inputs true steps (suc done) (blocked_by core inputs true steps (suc done))) before
        ∙ ap (λ o. Its done ++ blocked_acts core inputs true steps (suc done) o) by
        ∙ sym (append_assoc (Its done) (round_wants core inputs.good 1 steps (suc done) (node + 1)) (write_each (bad_value_writes core inputs (Some node))))
