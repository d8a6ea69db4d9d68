-- Which ports a run that is logged reads, writes and finishes, and what it writes.
use Rattle.std.proofs.Common.{◌≡◌, ℕ, true, List, [], ◌∷◌, ◌++◌, ap, sym, ◌∙◌, subst, inl, inr, append-nil}
use Rattle.std.proofs.lemmas.Grind.{flat_map-append}
use Rattle.hume_model.specs.declared.core_tree.Core.{Core}
use Rattle.hume_ports.specs.Ports.{is_among}
use Rattle.hume_ports.specs.Delivery.{Pairs, names_in}
use Rattle.port_acts.specs.Acts.{Act, finished, finished_by, finish_each, wanted, written}
use Rattle.port_acts.proofs.ActLists.{written-append}
use Rattle.port_acts.proofs.Each.{finishes_write_nothing}
use Rattle.run_rounds.specs.Inputs.{Inputs}
use Rattle.run_rounds.specs.Streams.{std_out, inputs, ports_of}
use Rattle.log_rounds.specs.RecordActs.{record_acts}
use Rattle.log_rounds.specs.Outcomes.{Outcome}
use Rattle.log_rounds.specs.VerifyActs.{outcome_line, verify_acts}
use Rattle.hume_calls.specs.Owed.{owed_record, owed_verify}
use Rattle.hume_calls.proofs.Logging.{IsInput, RecordReads, VerifyReads, record_reads, verify_reads}
use Rattle.hume_run.proofs.Touching.{all_finished, among_want, first_among, inputs_among, right_true}

-- finishes write nothing more
pub written_before_finishes : (acts : List Act) (names : List (List ℕ)) → written (acts ++ finish_each names) ≡ written acts
written_before_finishes acts names =
    written-append acts (finish_each names) ∙ ap (λ (pairs : Pairs). written acts ++ pairs) (finishes_write_nothing names) ∙ append-nil (written acts)

finished_last : (core : Core) (acts : List Act) (names : List (List ℕ)) → finished acts ≡ [] → finished (acts ++ finish_each names) ≡ names
finished_last core acts names none = flat_map-append finished_by acts (finish_each names) ∙ rw none (all_finished core names)

module _ (core : Core) (coming : Inputs) (steps : ℕ) (log : List ℕ) where
  pub record_finished : finished (record_acts core coming log steps) ≡ [] → finished (owed_record steps core coming log).acts ≡ log ∷ std_out ∷ []
  record_finished = finished_last core (record_acts core coming log steps) (log ∷ std_out ∷ [])

  pub verify_finished : (outcome : Outcome) → finished (verify_acts core coming log steps outcome) ≡ []
      → finished (owed_verify steps core coming log outcome).acts ≡ std_out ∷ []
  verify_finished outcome = finished_last core (verify_acts core coming log steps outcome) (std_out ∷ [])

  pub record_written : written (owed_record steps core coming log).acts ≡ written (record_acts core coming log steps)
  record_written = written_before_finishes (record_acts core coming log steps) (log ∷ std_out ∷ [])

  pub verify_written : (outcome : Outcome) → written (verify_acts core coming log steps outcome) ≡ (std_out, outcome_line core coming steps outcome) ∷ []
      → written (owed_verify steps core coming log outcome).acts ≡ (std_out, outcome_line core coming steps outcome) ∷ []
  verify_written outcome is = written_before_finishes (verify_acts core coming log steps outcome) (std_out ∷ []) ∙ is

  pub record_writes_to : ((name : List ℕ) → is_among name (names_in (written (record_acts core coming log steps))) ≡ true → is_among name (log ∷ std_out ∷ []) ≡ true)
      → (name : List ℕ) → is_among name (names_in (written (owed_record steps core coming log).acts)) ≡ true → is_among name (log ∷ std_out ∷ []) ≡ true
  record_writes_to all name among = all name (subst (λ (pairs : Pairs). is_among name (names_in pairs) ≡ true) record_written among)

  input_among : (name : List ℕ) → IsInput core name → is_among name (ports_of (inputs core)) ≡ true
  input_among name (n, stream, at, is) = subst (λ (port : List ℕ). is_among port (ports_of (inputs core)) ≡ true) (sym is) (inputs_among core core.nodes n stream at)

  pub record_reads_from : RecordReads → (name : List ℕ) → is_among name (wanted (owed_record steps core coming log).acts) ≡ true
      → is_among name (ports_of (inputs core)) ≡ true
  record_reads_from reads name among =
      let want = among_want core (owed_record steps core coming log).acts name among in
      input_among name (record_reads reads core coming log steps want.0 want.2 name want.1 want.3)

  pub verify_reads_from : VerifyReads → (outcome : Outcome) (name : List ℕ) → is_among name (wanted (owed_verify steps core coming log outcome).acts) ≡ true
      → is_among name (log ∷ ports_of (inputs core)) ≡ true
  verify_reads_from reads outcome name among =
      let want = among_want core (owed_verify steps core coming log outcome).acts name among in
      elim (verify_reads reads core coming log steps outcome want.0 want.2 name want.1 want.3) [
        | inl is ↦ subst (λ (n : List ℕ). is_among n (log ∷ ports_of (inputs core)) ≡ true) (sym is) (first_among log (ports_of (inputs core)))
        | inr input ↦ right_true _ _ (input_among name input)
      ]
