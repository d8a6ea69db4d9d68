-- Which ports runs read that are logged.
use Rattle.std.proofs.Common.{◌≡◌, ◌⊎◌, ℕ, false, List, [], ◌∷◌, ◌++◌, Some, None, slice_get, sym, subst, inl, inr}
use Rattle.std.specs.Str.{bytes_eq}
use Rattle.hume_model.specs.declared.core_tree.NodeC.TheVariants.{From}
use Rattle.hume_model.specs.declared.core_tree.StreamC.{StreamC}
use Rattle.hume_model.specs.declared.core_tree.Core.{Core}
use Rattle.hume_ports.specs.Ports.{is_among}
use Rattle.port_acts.specs.Acts.{Act, wants, finishes, finish_each}
use Rattle.run_rounds.specs.Inputs.{Inputs}
use Rattle.run_rounds.specs.Streams.{std_out, streams}
use Rattle.log_rounds.specs.RecordActs.{record_acts}
use Rattle.log_rounds.specs.Outcomes.{Outcome}
use Rattle.log_rounds.specs.VerifyActs.{verify_acts}
use Rattle.hume_calls.specs.Owed.{owed_record, owed_verify}
use Rattle.hume_calls.specs.Streams.{unfit_line}
use Rattle.hume_calls.proofs.Wanting.{apart_from_earlier, apart_from_source, no_want_of_writes, split}

-- The name is that of an input stream's port.
abbrev pub IsInput : Core → List ℕ → Type 0
IsInput core name = (n : ℕ) × (stream : StreamC) × (slice_get core.nodes n ≡ Some (From stream)) × (name ≡ stream.port)

-- A recorded run reads ports of input streams.
abbrev pub RecordReads : Type 0
RecordReads = (core : Core) (coming : Inputs) (log : List ℕ) (steps : ℕ) (before later : List Act) (name : List ℕ) (count : ℕ)
    → record_acts core coming log steps ≡ before ++ wants name count ∷ later → IsInput core name

-- A run by which a log is verified reads the log besides.
abbrev pub VerifyReads : Type 0
VerifyReads = (core : Core) (coming : Inputs) (log : List ℕ) (steps : ℕ) (outcome : Outcome) (before later : List Act) (name : List ℕ) (count : ℕ)
    → verify_acts core coming log steps outcome ≡ before ++ wants name count ∷ later → (name ≡ log) ⊎ IsInput core name

-- so it is of the acts that are owed
pub record_reads : RecordReads → (core : Core) (coming : Inputs) (log : List ℕ) (steps : ℕ) (before later : List Act) (name : List ℕ) (count : ℕ)
    → (owed_record steps core coming log).acts ≡ before ++ wants name count ∷ later → IsInput core name
record_reads reads core coming log steps before later name count e =
    elim (split (record_acts core coming log steps) (finish_each (log ∷ std_out ∷ [])) before (wants name count) later e) [
      | inl here ↦ reads core coming log steps before here.0 name count here.1
      | inr last ↦ absurd (no_want_of_writes [] (log ∷ std_out ∷ []) last.0 later name count last.2)
    ]

pub verify_reads : VerifyReads → (core : Core) (coming : Inputs) (log : List ℕ) (steps : ℕ) (outcome : Outcome) (before later : List Act) (name : List ℕ)
    (count : ℕ) → (owed_verify steps core coming log outcome).acts ≡ before ++ wants name count ∷ later → (name ≡ log) ⊎ IsInput core name
verify_reads reads core coming log steps outcome before later name count e =
    elim (split (verify_acts core coming log steps outcome) (finishes std_out ∷ []) before (wants name count) later e) [
      | inl here ↦ reads core coming log steps outcome before here.0 name count here.1
      | inr last ↦ absurd (no_want_of_writes [] (std_out ∷ []) last.0 later name count last.2)
    ]

-- an input stream's port is neither the source's nor the log's
pub input_apart : (core : Core) (ns : List (List ℕ)) (source log : List ℕ) → unfit_line ns source (log ∷ []) (streams core) ≡ None → (name : List ℕ)
    → IsInput core name → (bytes_eq name source ≡ false) × (is_among name (log ∷ []) ≡ false)
input_apart core ns source log fit name (n, stream, at, is) = (
  subst (λ (port : List ℕ). bytes_eq port source ≡ false) (sym is) (apart_from_source ns source core.nodes (log ∷ []) fit n stream at),
  subst (λ (port : List ℕ). is_among port (log ∷ []) ≡ false) (sym is) (apart_from_earlier ns source core.nodes (log ∷ []) fit n stream at),
)
