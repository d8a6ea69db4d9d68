-- The start and the end of a run by which a log is verified, and the line that is told of it.
use Rattle.std.proofs.Common.{◌≡◌, ℕ, suc, Bool, true, false, true≢false, List, [], ◌∷◌, ◌++◌, length, append_assoc, append-nil, Option, None, Some, slice_get, Result, Ok, Err, refl, ap, sym, ◌∙◌, subst, arith}
use Rattle.std.specs.Io.KnownBytes.{IsAtEnd}
use Rattle.std.specs.Option.{unwrap_or}
use Rattle.hume_model.specs.declared.core_tree.Core.{Core}
use Rattle.hume_ports.specs.declared.port.Failed.{Failed}
use Rattle.hume_ports.specs.Port.{PortView}
use Rattle.hume_ports.specs.Ports.{names, left_of, place_of, ForNameAt, Untouched}
use Rattle.hume_ports.specs.Delivery.{Progress, bytes_for}
use Rattle.hume_ports.proofs.Names.{bytes_for-append, bytes_for-one}
use Rattle.port_acts.specs.Acts.{Act, wants, writes}
use Rattle.port_acts.specs.Ends.{Ends, Fails, Made, never}
use Rattle.port_acts.proofs.Failing.{Fails-any, Fails-on, Fails-stop}
use Rattle.port_acts.proofs.Making.{Made-on}
use Rattle.phase_workers.specs.Engines.{queue_at}
use Rattle.phase_workers.specs.Runnable.{IsRunnable}
use Rattle.run_log.specs.declared.fault.LogFault.{LogFault}
use Rattle.run_log.specs.declared.half.Half.TheVariants.{End}
use Rattle.run_log.specs.declared.log_run.LogRun.{LogRun}
use Rattle.run_log.specs.Compared.{AsksEnd, Compares}
use Rattle.run_log.specs.Logs.{log_of}
use Rattle.run_log.specs.Moments.{core_in, engine_of, moment_of}
use Rattle.run_rounds.specs.Inputs.{Inputs}
use Rattle.run_rounds.specs.Runs.{Comes}
use Rattle.run_rounds.specs.Streams.{std_out}
use Rattle.run_rounds.specs.Writes.{bad_value_line, name_of}
use Rattle.run_rounds.specs.inner.Reading.{MayCome}
use Rattle.log_rounds.specs.declared.verdict.Verdict.{Verdict}
use Rattle.log_rounds.specs.declared.verifying.Stop.{Stop}
use Rattle.log_rounds.specs.declared.verifying.Stop.TheVariants.{Wrong}
use Rattle.log_rounds.specs.Ended.{FailsToVerify, Verifies}
use Rattle.log_rounds.specs.Opened.{IsApart, IsFresh}
use Rattle.log_rounds.specs.Outcomes as found
use Rattle.log_rounds.specs.Outcomes.{IsOutcome, Outcome, holds, goes_on, is_held, is_longer, lines_through, surplus, verdict_of}
use Rattle.log_rounds.specs.Supersteps.{blocked_superstep}
use Rattle.log_rounds.specs.VerifyActs.{acts_to_end, agreeing_acts, outcome_line, verify_acts, verify_few, verify_reads}
use Rattle.log_rounds.specs.inner.Standing.{Deeds, StandsAt}
use Rattle.log_rounds.specs.inner.Steps.{EndsAgreeing, EndsJudging, FailsToJudge, HasVerified, IsStopOf, Judges, verified}
use Rattle.log_rounds.specs.inner.Stops.{answer_of, stop_line}
use Rattle.log_rounds.proofs.Doing.{might_come, read_on}
use Rattle.log_rounds.proofs.Halves.{rerun}
use Rattle.log_rounds.proofs.Standings.{comes, may, text_read}
use Rattle.log_rounds.proofs.Starting.{nothing_done, stands_first}
use Rattle.log_rounds.proofs.Supersteps.{none_blocked}
use Rattle.log_rounds.proofs.VerifySteps.{compared_failed, compared_on, compared_wrong, log_want_fails}

-- the block of the start is compared
module _ (core : Core) (run : IsRunnable core) (log : List ℕ) (apart : IsApart core log) (steps : ℕ) (ports news : List PortView) (logs : LogRun)
    (fresh : IsFresh core logs) (untouched : Untouched (log ∷ []) ports news) where
  abbrev ComparesStart : Result (Option LogFault) Failed → Type 0
  ComparesStart result = Compares (core_in logs) (moment_of logs) log ports news result

  own : (result : Result (Option LogFault) Failed) → ComparesStart result → Compares core (moment_of logs) log ports news result
  own result c = subst (λ its. Compares its (moment_of logs) log ports news result) fresh.is_core c

  pub start_agrees : (after : LogRun) → engine_of after ≡ engine_of logs → moment_of after ≡ moment_of logs → ComparesStart (Ok None)
      → HasVerified core log steps 0 ports news after
  start_agrees after engine moment c =
      rerun core steps End 0 (verified core log steps 0) ports news logs after engine moment
      (compared_on core run steps End 0 (nothing_done log) ports ports logs (stands_first core log steps ports logs fresh) apart (omega arith) (λ made is. is) (λ good. refl)
      (λ good. refl) news untouched (own (Ok None) c))

  pub start_wrong : (fault : LogFault) → ComparesStart (Ok (Some fault)) → Judges core log steps ports news (Some (Wrong fault))
  start_wrong fault c =
      compared_wrong core run steps End 0 (nothing_done log) ports ports logs (stands_first core log steps ports logs fresh) apart (omega arith) (λ made is. is) (λ good. refl)
      (λ good. refl) news untouched fault (own (Ok (Some fault)) c)

  pub start_fails : (failed : Failed) → ComparesStart (Err failed) → FailsToJudge core log steps ports news
  start_fails failed c =
      compared_failed core run steps End 0 (nothing_done log) ports ports logs (stands_first core log steps ports logs fresh) apart (omega arith) (λ made is. is) (λ good. refl)
      (λ good. refl) news untouched failed (own (Err failed) c)

-- where all supersteps are made it holds or goes on
ends_as : (core : Core) (log : List ℕ) (steps : ℕ) (inputs : Inputs) (text : List ℕ) → blocked_superstep core inputs steps ≡ None → (rest : List ℕ)
    → text ≡ log_of core inputs.good steps ++ rest
    → (outcome : Outcome) × IsOutcome core inputs steps text outcome × (verify_reads core inputs log steps outcome ≡ acts_to_end core inputs.good log steps)
ends_as core log steps inputs text none [] is = (holds, is_held none (is ∙ append-nil (log_of core inputs.good steps)), refl)
ends_as core log steps inputs text none (byte ∷ rest) is = (goes_on, is_longer none byte rest is, refl)

one_byte : (bytes : List ℕ) → length bytes ≡ 1 → (byte : ℕ) × (bytes ≡ byte ∷ [])
one_byte [] is = absurd (omega (arith, is))
one_byte (byte ∷ []) is = (byte, refl)
one_byte (byte ∷ other ∷ bytes) is = absurd (omega (arith, is))

-- all agrees, and one byte more is asked for
module _ (core : Core) (run : IsRunnable core) (log : List ℕ) (apart : IsApart core log) (steps : ℕ) (olds mids news : List PortView) (logs : LogRun)
    (stands : HasVerified core log steps steps olds mids logs) (untouched : Untouched (log ∷ []) mids news) where
  abbrev did : Deeds
  did = verified core log steps steps

  abbrev count : ℕ
  count = suc (length (bytes_for log stands.taken))

  module _ (inputs : Inputs) (can : MayCome core (queue_at (engine_of logs)) stands.taken inputs) where
    none : blocked_superstep core inputs steps ≡ None
    none = none_blocked core inputs steps (λ superstep least most. stands.unblocked inputs can superstep least most)

    acts_are : did.acts inputs.good ++ wants log count ∷ [] ≡ acts_to_end core inputs.good log steps
    acts_are = ap (λ (bytes : List ℕ). agreeing_acts core inputs.good log steps steps ++ wants log (suc (length bytes)) ∷ []) (stands.logged apart inputs can)

  module _ (bytes : List ℕ) (progress : Progress mids news ((log, bytes) ∷ []) []) where
    abbrev after : Deeds
    after = record { log = log; bytes = λ good. did.bytes good ++ bytes; acts = λ good. did.acts good ++ wants log count ∷ [] }

    abbrev stood : StandsAt core steps End steps after olds news logs
    stood = read_on core steps End steps did olds mids logs stands apart bytes count news progress untouched

    abbrev coming : Comes core olds
    coming = comes core run steps End steps after olds news logs stood

    can_now : MayCome core (queue_at (engine_of logs)) stood.taken coming.inputs
    can_now = may core run steps End steps after olds news logs stood

    can_then : MayCome core (queue_at (engine_of logs)) stands.taken coming.inputs
    can_then = might_come core steps End steps did olds mids logs stands apart bytes count news progress untouched coming.inputs can_now

    made : Made (acts_to_end core coming.inputs.good log steps) stood.taken olds news
    made = subst (λ (acts : List Act). Made acts stood.taken olds news) (stood.did coming.inputs can_now ∙ acts_are coming.inputs can_then) stood.made

    -- the text is the log, and the bytes, and a rest
    text_is : (rest : List ℕ) × (coming.texts log ≡ log_of core coming.inputs.good steps ++ (bytes ++ rest)) × (IsAtEnd (left_of log news) → rest ≡ [])
    text_is =
        let t = text_read core run steps End steps after olds news logs stood log in
        (t.0, t.1 ∙ ap (λ all. all ++ t.0) (stood.logged apart coming.inputs can_now) ∙ append_assoc (log_of core coming.inputs.good steps) bytes t.0, t.2)

    judged_held : bytes ≡ [] → IsAtEnd (left_of log news) → Judges core log steps olds news None
    judged_held nothing end =
        let t = text_is in
        record {
          comes = coming;
          outcome = holds;
          is = is_held (none coming.inputs can_then)
              (t.1 ∙ ap (λ more. log_of core coming.inputs.good steps ++ (more ++ t.0)) nothing ∙ ap (λ rest. log_of core coming.inputs.good steps ++ rest) (t.2 end)
              ∙ append-nil (log_of core coming.inputs.good steps));
          taken = stood.taken;
          made = made;
          stops = refl;
        }

    judged_longer : length bytes ≡ 1 → Judges core log steps olds news (Some (Wrong (surplus core steps)))
    judged_longer one =
        let t = text_is in
        let its = one_byte bytes one in
        record {
          comes = coming;
          outcome = goes_on;
          is = is_longer (none coming.inputs can_then) its.0 t.0 (t.1 ∙ ap (λ more. log_of core coming.inputs.good steps ++ (more ++ t.0)) its.1);
          taken = stood.taken;
          made = made;
          stops = refl;
        }

  pub end_held : AsksEnd log mids news (Ok true) → Judges core log steps olds news None
  end_held a = judged_held a.bytes a.reads a.ends.0 a.ends.1

  pub end_longer : (fault : LogFault) → fault ≡ surplus core steps → AsksEnd log mids news (Ok false) → Judges core log steps olds news (Some (Wrong fault))
  end_longer fault same a = subst (λ its. Judges core log steps olds news (Some (Wrong its))) (sym same) (judged_longer a.bytes a.reads a.ends)

  -- the read failed
  pub end_fails : (failed : Failed) → AsksEnd log mids news (Err failed) → FailsToJudge core log steps olds news
  end_fails failed a =
      let came = comes core run steps End steps did olds mids logs stands in
      let can = may core run steps End steps did olds mids logs stands in
      let t = text_read core run steps End steps did olds mids logs stands log in
      let ends = ends_as core log steps came.inputs (came.texts log) (none came.inputs can) t.0 (t.1 ∙ ap (λ front. front ++ t.0) (stands.logged apart came.inputs can)) in
      let same : acts_to_end core came.inputs.good log steps ≡ stands.acts ++ wants log count ∷ [] =
      sym (ap (λ front. front ++ wants log count ∷ []) (stands.did came.inputs can) ∙ acts_are came.inputs can) in
      let read = ap length (bytes_for-append log stands.taken ((log, a.bytes) ∷ []) ∙ ap (λ last. bytes_for log stands.taken ++ last) (bytes_for-one log a.bytes)
      ∙ ap (λ last. bytes_for log stands.taken ++ last) a.ends ∙ append-nil (bytes_for log stands.taken)) in
      record {
        comes = came;
        outcome = ends.0;
        is = ends.1;
        fails = log_want_fails core log apart stands.taken stands.acts (verify_reads core came.inputs log steps ends.0) [] count a.bytes olds mids news
            (ends.2 ∙ same ∙ sym (append-nil (stands.acts ++ wants log count ∷ []))) stands.made a.reads (omega (arith, read)) (λ roomy. true≢false (sym (a.roomy roomy))) untouched;
      }

-- the line that is told, and the answer

line_is : (core : Core) (inputs : Inputs) (steps : ℕ) (outcome : Outcome) (stop : Option Stop) → IsStopOf core inputs steps outcome stop
    → (stop_line core stop ≡ outcome_line core inputs steps outcome) × (answer_of stop ≡ verdict_of outcome)
line_is core inputs steps found.holds stop is = (ap (stop_line core) is, ap answer_of is)
line_is core inputs steps (found.fails half superstep fault) stop is = (ap (stop_line core) is, ap answer_of is)
line_is core inputs steps found.goes_on stop is = (ap (stop_line core) is, ap answer_of is)
line_is core inputs steps (found.blocked superstep node) stop is = (
  ap (stop_line core) is.2 ∙ ap (λ o. bad_value_line (name_of (slice_get core.nodes node)) (unwrap_or o 0)) (sym is.1),
  ap answer_of is.2,
)

module _ (core : Core) (log : List ℕ) (steps : ℕ) (olds mids news : List PortView) (stop : Option Stop) (judges : Judges core log steps olds mids stop) where
  abbrev told : List Act
  told = writes std_out (stop_line core stop) ∷ []

  its : (stop_line core stop ≡ outcome_line core judges.comes.inputs steps judges.outcome) × (answer_of stop ≡ verdict_of judges.outcome)
  its = line_is core judges.comes.inputs steps judges.outcome stop judges.stops

  all_acts : verify_reads core judges.comes.inputs log steps judges.outcome ++ told ≡ verify_acts core judges.comes.inputs log steps judges.outcome
  all_acts = ap (λ line. verify_reads core judges.comes.inputs log steps judges.outcome ++ writes std_out line ∷ []) its.0

  pub stop_told : (verdict : Verdict) → verdict ≡ answer_of stop → Made told [] mids news → Verifies core log steps olds news verdict
  stop_told verdict is made = record {
    comes = judges.comes;
    outcome = judges.outcome;
    is = judges.is;
    taken = judges.taken;
    made = subst (λ acts. Made acts judges.taken olds news) all_acts
        (subst (λ pairs. Made (verify_reads core judges.comes.inputs log steps judges.outcome ++ told) pairs olds news) (append-nil judges.taken)
        (Made-on (verify_reads core judges.comes.inputs log steps judges.outcome) told judges.taken [] olds mids news judges.made made));
    answer = is ∙ its.1;
  }

  pub stop_untold : Fails never [] told mids news → FailsToVerify core log steps olds news
  stop_untold fails = record {
    comes = judges.comes;
    outcome = judges.outcome;
    is = judges.is;
    fails = subst (λ acts. Fails (verify_few core log) [] acts olds news) all_acts
        (Fails-on (verify_few core log) [] judges.taken (verify_reads core judges.comes.inputs log steps judges.outcome) told olds mids news judges.made
        (Fails-any (verify_few core log) judges.taken told mids news fails));
  }

-- a read failed before it
pub judge_failed : (core : Core) (log : List ℕ) (steps : ℕ) (olds news : List PortView) → FailsToJudge core log steps olds news → FailsToVerify core log steps olds news
judge_failed core log steps olds news f =
    let reads : List Act = verify_reads core f.comes.inputs log steps f.outcome in
    record {
      comes = f.comes;
      outcome = f.outcome;
      is = f.is;
      fails = Fails-stop (verify_few core log) [] reads (writes std_out (outcome_line core f.comes.inputs steps f.outcome) ∷ []) olds news f.fails;
    }

-- an answer that is known

pub asked : (name : List ℕ) (at : ℕ) (olds news : List PortView) (result other : Result Bool Failed) → result ≡ other → place_of name (names olds) ≡ Some at
    → ForNameAt at olds (λ log. AsksEnd log olds news result) → AsksEnd name olds news other
asked name at olds news result other same place asks = subst (AsksEnd name olds news) same (asks name place)

pub supersteps_from : (core other : Core) (name : List ℕ) (steps : ℕ) (olds mids news : List PortView) (begun ended : LogRun) (result last : Result (Option Stop) Failed)
    → other ≡ core → result ≡ last → (HasVerified other name steps 0 olds mids begun → EndsAgreeing other name steps steps olds news ended result)
    → HasVerified core name steps 0 olds mids begun → EndsAgreeing core name steps steps olds news ended last
supersteps_from core other name steps olds mids news begun ended result last same is ends stands =
    subst (EndsAgreeing core name steps steps olds news ended) is
    (subst (λ c. EndsAgreeing c name steps steps olds news ended result) same (ends (subst (λ c. HasVerified c name steps 0 olds mids begun) (sym same) stands)))

pub judged_known : (core : Core) (name : List ℕ) (steps : ℕ) (olds news : List PortView) (result other : Result (Option Stop) Failed) → result ≡ other
    → EndsJudging core name steps olds news result → EndsJudging core name steps olds news other
judged_known core name steps olds news result other same ends = subst (EndsJudging core name steps olds news) same ends

pub told_known : (core other : Core) (stop : Option Stop) (olds news : List PortView) (result last : Result (Unit {0}) Failed) → other ≡ core → result ≡ last
    → Ends never [] (writes std_out (stop_line other stop) ∷ []) [] olds news result → Ends never [] (writes std_out (stop_line core stop) ∷ []) [] olds news last
told_known core other stop olds news result last same is ends =
    subst (λ r. Ends never [] (writes std_out (stop_line core stop) ∷ []) [] olds news r) is
    (subst (λ c. Ends never [] (writes std_out (stop_line c stop) ∷ []) [] olds news result) same ends)
