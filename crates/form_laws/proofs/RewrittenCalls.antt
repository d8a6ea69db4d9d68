-- A call of `calc` and one of `run` owe the same to the streams of one source.
use Rattle.std.proofs.Common.{◌≡◌, ℕ, false, List, Ok, inl, inr, refl, sym, subst}
use Rattle.hume_model.specs.declared.core_tree.Core.{Core}
use Rattle.hume_front.proofs.Sources.{sound_and_accepted}
use Rattle.port_acts.specs.Early.{after_reads}
use Rattle.port_acts.specs.Ends.{Owed}
use Rattle.phase_workers.specs.Runnable.{IsRunnable}
use Rattle.box_calculus.specs.Scripts.{scripted}
use Rattle.run_rounds.specs.Inputs.{AreInputs, Inputs}
use Rattle.run_rounds.proofs.OneInputs.{one_inputs}
use Rattle.hume_calls.specs.declared.status.Status.{Status}
use Rattle.hume_calls.specs.declared.status.Status.TheVariants.{Refused}
use Rattle.hume_calls.specs.Owed.{IsOwedCalc, IsOwedRun, IsOwedScript, owed_run}
use Rattle.hume_calls.specs.Reading.{script_reads, script_text}
use Rattle.hume_calls.proofs.Runnable.{runnable}
use Rattle.form_laws.specs.Alike.{OweAlike}
use Rattle.form_laws.proofs.RewrittenInputs.{same_inputs}
use Rattle.form_laws.proofs.RewrittenNodes.{runs_alike}
use Rattle.form_laws.proofs.RewrittenOwed.{runs_owe_alike}

abbrev IsUnrefused : Owed Status → Type 0
IsUnrefused owed = owed.answer ≡ Refused → ⊥

answer_of : (first second : Owed Status) → first ≡ second → second.answer ≡ Refused → IsUnrefused first → ⊥
answer_of first second same refused unrefused = unrefused (subst (λ (o : Owed Status). o.answer ≡ Refused) (sym same) refused)

-- the run of the core that a script makes, over what comes of the same texts
scripted_run : (core new : Core) (lines : List ℕ) → IsRunnable core → scripted core lines ≡ Ok new
    → (texts : List ℕ → List ℕ) (coming other : Inputs) → AreInputs new texts coming → AreInputs core texts other
    → (steps : ℕ) → OweAlike (owed_run false steps new coming) (owed_run false steps core other)
scripted_run core new lines run made texts coming other are those steps =
    let same : coming ≡ other = one_inputs core run.names texts coming other ((same_inputs core new lines made texts coming).0 are) those in
    subst (λ (inputs : Inputs). OweAlike (owed_run false steps new coming) (owed_run false steps core inputs)) same
    (runs_owe_alike core new (runs_alike core new lines run.formed made) false steps coming)

module _ (steps : ℕ) (source script text : List ℕ) (names : List (List ℕ)) (texts : List ℕ → List ℕ) where
  abbrev Scripted : Core → Owed Status → Type 0
  Scripted core owed = IsOwedScript steps core (script_text (texts script)) source script names texts owed

  script_alike : (core : Core) → IsRunnable core → (other : Inputs) → AreInputs core texts other
      → (later : Owed Status) → Scripted core later → IsUnrefused later → OweAlike later (owed_run false steps core other)
  script_alike core run other those later (inl p) unrefused = absurd (answer_of later _ p.2 refl unrefused)
  script_alike core run other those later (inr p) unrefused =
      subst (λ (o : Owed Status). OweAlike o (owed_run false steps core other)) (sym p.6)
      (scripted_run core p.0 (script_text (texts script)) run p.1 texts p.4 other p.5 those steps)

  after_script : (later run : Owed Status) → OweAlike later run → OweAlike (after_reads (script_reads script) later) run
  after_script later run alike = record { answer = alike.answer; bytes = alike.bytes }

  pub calc_as_run : (calc run : Owed Status) → IsOwedCalc steps source script text names texts calc → IsOwedRun false steps source text names texts run
      → IsUnrefused calc → IsUnrefused run → OweAlike calc run
  calc_as_run calc run (inl p) q unrefused other = absurd (answer_of calc _ p.2 refl unrefused)
  calc_as_run calc run (inr p) (inl q) unrefused other = absurd (answer_of run _ q.2 refl other)
  calc_as_run calc run (inr p) (inr q) unrefused other =
      let core : p.0.core ≡ q.0.core = sound_and_accepted text p.0 q.0 p.1 q.1 in
      let later : IsUnrefused p.2 = λ refused. answer_of calc _ p.4 refused unrefused in
      let alike : OweAlike p.2 (owed_run false steps q.0.core q.3) =
      script_alike q.0.core (runnable text q.0 q.1) q.3 q.4 p.2 (subst (λ (c : Core). Scripted c p.2) core p.3) later in
      subst (λ (o : Owed Status). OweAlike calc o) (sym q.5)
      (subst (λ (o : Owed Status). OweAlike o (owed_run false steps q.0.core q.3)) (sym p.4) (after_script p.2 _ alike))
