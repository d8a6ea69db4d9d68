-- A recorded run writes the log of its run, and a verified log is answered by what it is.
use Rattle.std.proofs.Common.{◌≡◌, ◌↔◌, ℕ, ◌-◌, true, false, List, ◌++◌, Option, None, Some, refl, ap, sym, ◌∙◌}
use Rattle.std.specs.Str.{bytes_eq}
use Rattle.hume_model.specs.declared.core_tree.Core.{Core}
use Rattle.hume_ports.specs.Delivery.{bytes_for}
use Rattle.port_acts.specs.Acts.{written}
use Rattle.port_acts.specs.Ends.{Owed}
use Rattle.run_log.specs.Logs.{log_of}
use Rattle.run_rounds.specs.Inputs.{Inputs}
use Rattle.run_rounds.specs.Streams.{std_out}
use Rattle.log_rounds.specs.declared.verdict.Verdict.{Verdict}
use Rattle.log_rounds.specs.declared.verdict.Verdict.TheVariants as verdict
use Rattle.log_rounds.specs.Supersteps.{before_blocked, blocked_superstep, supersteps_made}
use Rattle.log_rounds.specs.RecordActs.{record_acts}
use Rattle.log_rounds.specs.Outcomes.{Outcome, verdict_of}
use Rattle.hume_calls.specs.declared.status.Status.{Status}
use Rattle.hume_calls.specs.declared.status.Status.TheVariants.{Done, BadValue, LogFails}
use Rattle.hume_calls.specs.Owed.{IsOwedLogged, owed_record, run_status, verdict_status}
use Rattle.hume_run.proofs.LogPorts.{record_written}

-- the statuses of verdicts are those of no others
holds_done : (v : Verdict) → verdict_status v ≡ Done → v ≡ verdict.Holds
holds_done verdict.Holds is = refl
holds_done verdict.Fails is = cc
holds_done verdict.Blocked is = cc

fails_told : (v : Verdict) → verdict_status v ≡ LogFails → v ≡ verdict.Fails
fails_told verdict.Holds is = cc
fails_told verdict.Fails is = refl
fails_told verdict.Blocked is = cc

blocked_told : (v : Verdict) → verdict_status v ≡ BadValue → v ≡ verdict.Blocked
blocked_told verdict.Holds is = cc
blocked_told verdict.Fails is = cc
blocked_told verdict.Blocked is = refl

fails_apart : (v : Verdict) → v ≡ verdict.Fails → v ≡ verdict.Holds → ⊥
fails_apart v is same = cc

module _ (core : Core) (coming : Inputs) (steps : ℕ) (log : List ℕ) where
  pub recorded : (bytes_eq log std_out ≡ false
      → bytes_for log (written (record_acts core coming log steps)) ≡ log_of core coming.good (supersteps_made core coming steps))
      → bytes_eq log std_out ≡ false → blocked_superstep core coming steps ≡ None
      → (bytes_for log (written (owed_record steps core coming log).acts) ≡ log_of core coming.good steps) × ((owed_record steps core coming log).answer ≡ Done)
  recorded its apart none = (
    ap (bytes_for log) (record_written core coming steps log) ∙ its apart
        ∙ ap (λ (o : Option ℕ). log_of core coming.good (before_blocked steps o)) none,
    ap run_status none,
  )

  -- a log that is verified
  module _ (text : List ℕ) (owed : Owed Status) (owes : IsOwedLogged true steps core coming log text owed) where
    abbrev outcome : Outcome
    outcome = owes.0

    answer_is : owed.answer ≡ verdict_status (verdict_of outcome)
    answer_is = ap (λ (o : Owed Status). o.answer) owes.2

    abbrev Held : Type 0
    Held = (blocked_superstep core coming steps ≡ None) × (text ≡ log_of core coming.good steps)

    module _ (holds : (verdict_of outcome ≡ verdict.Holds) ↔ Held) where
      pub verified_holds : blocked_superstep core coming steps ≡ None → (owed.answer ≡ Done) ↔ (text ≡ log_of core coming.good steps)
      verified_holds none = (
        λ done. (holds.0 (holds_done (verdict_of outcome) (sym answer_is ∙ done))).1,
        λ same. answer_is ∙ ap verdict_status (holds.1 (none, same)),
      )

      pub verified_fails : (blocked_superstep core coming steps ≡ None → (text ≡ log_of core coming.good steps → ⊥) → verdict_of outcome ≡ verdict.Fails)
          → blocked_superstep core coming steps ≡ None → (owed.answer ≡ LogFails) ↔ (text ≡ log_of core coming.good steps → ⊥)
      verified_fails fails none = (
        λ told same. fails_apart (verdict_of outcome) (fails_told (verdict_of outcome) (sym answer_is ∙ told)) (holds.1 (none, same)),
        λ other. answer_is ∙ ap verdict_status (fails none other),
      )

    abbrev Blocks : Type 0
    Blocks = (superstep : ℕ) × (blocked_superstep core coming steps ≡ Some superstep)
        × (rest : List ℕ) × (text ≡ log_of core coming.good (superstep - 1) ++ rest)

    pub verified_blocked : (verdict_of outcome ≡ verdict.Blocked) ↔ Blocks → (owed.answer ≡ BadValue) ↔ Blocks
    verified_blocked blocks = (
      λ told. blocks.0 (blocked_told (verdict_of outcome) (sym answer_is ∙ told)),
      λ is. answer_is ∙ ap verdict_status (blocks.1 is),
    )
