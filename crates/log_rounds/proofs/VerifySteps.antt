-- A block that is compared with the log, and a superstep of a run by which a log is verified.
use Rattle.std.proofs.Common.{◌≡◌, ℕ, ◌+◌, ◌<◌, ◌≤◌, true, true≢false, List, [], ◌∷◌, ◌++◌, length, length-append, append_assoc, append-nil, Option, None, Some, Ok, Err, refl, ap, sym, ◌∙◌, subst, inl, inr, arith}
use Rattle.std.proofs.lemmas.Bool.{cases_lt}
use Rattle.std.proofs.lemmas.List.Folds.{concat-append}
use Rattle.std.specs.List.{concat}
use Rattle.std.specs.Str.{bytes_eq}
use Rattle.std.specs.Io.KnownBytes.{IsAtEnd}
use Rattle.hume_base.specs.declared.types.Value.{Value}
use Rattle.hume_model.specs.declared.core_tree.NodeC.TheVariants.{From}
use Rattle.hume_model.specs.declared.core_tree.Core.{Core}
use Rattle.hume_net.specs.Start.{start}
use Rattle.hume_ports.specs.declared.port.Failed.{Failed}
use Rattle.hume_ports.specs.Port.{PortView}
use Rattle.hume_ports.specs.Ports.{left_of, Untouched}
use Rattle.hume_ports.specs.Delivery.{Progress, ReadFailure, Roomy, bytes_for}
use Rattle.hume_ports.proofs.Names.{bytes_eq-self, bytes_for-append, bytes_for-one}
use Rattle.port_acts.specs.Acts.{Act, wants}
use Rattle.port_acts.specs.Ends.{Fails, Made}
use Rattle.port_acts.proofs.Failing.{then_fails}
use Rattle.port_acts.proofs.Single.{only_of, want_fails}
use Rattle.phase_workers.specs.Engines.{queue_at}
use Rattle.phase_workers.specs.Runnable.{IsRunnable}
use Rattle.run_log.specs.declared.fault.LogFault.{LogFault}
use Rattle.run_log.specs.declared.half.Half.{Half}
use Rattle.run_log.specs.declared.half.Half.TheVariants.{Mid, End}
use Rattle.run_log.specs.declared.log_run.LogRun.{LogRun}
use Rattle.run_log.specs.Compared.{Compares}
use Rattle.run_log.specs.Faults.{IsFault}
use Rattle.run_log.specs.Moments.{Moment, block_at, engine_of, moment_of}
use Rattle.run_rounds.specs.Inputs.{Inputs}
use Rattle.run_rounds.specs.Runs.{Comes}
use Rattle.run_rounds.specs.inner.Reading.{MayCome}
use Rattle.log_rounds.specs.declared.verifying.Stop.TheVariants.{Wrong}
use Rattle.log_rounds.specs.Opened.{IsApart}
use Rattle.log_rounds.specs.Outcomes.{FailsAt, HasBlock, fails, is_wrong, lines_through, lines_until, moment_at}
use Rattle.log_rounds.specs.Supersteps.{supersteps_made}
use Rattle.log_rounds.specs.VerifyActs.{acts_through, compared, verify_few, verify_reads}
use Rattle.log_rounds.specs.inner.Standing.{Deeds, StandsAt}
use Rattle.log_rounds.specs.inner.Steps.{FailsToJudge, Judges}
use Rattle.log_rounds.proofs.Blocks.{through_is}
use Rattle.log_rounds.proofs.Doing.{block_there, might_come, read_on, restated}
use Rattle.log_rounds.proofs.Faults.{fault_stays, fault_there}
use Rattle.log_rounds.proofs.Outcomes.{some_outcome}
use Rattle.log_rounds.proofs.Standings.{comes, may, text_read}
use Rattle.log_rounds.proofs.Supersteps.{made_least}
use Rattle.log_rounds.proofs.VerifiedActs.{reads_through}

-- the log agrees through a block
abbrev pub agreed : Core → List ℕ → ℕ → Half → ℕ → Deeds
agreed core log steps half superstep = record {
  log = log;
  bytes = λ good. concat (lines_through core (start core good) half superstep);
  acts = λ good. acts_through core good log steps half superstep;
}

-- a read of the log fails where too few of its bytes have come
pub few_of_log : (core : Core) (log : List ℕ) (count : ℕ) (bytes : List ℕ) → IsApart core log → length bytes < count → verify_few core log log count bytes
few_of_log core log count bytes apart few = record {
  of_log = λ same. few;
  of_streams = λ node stream there named good bad until.
      absurd (true≢false (sym (subst (λ name. bytes_eq name log ≡ true) (sym named) (bytes_eq-self log)) ∙ apart node (From stream) stream there refl));
}

-- a fault of bytes that were all that was left is one of the text
fault_of_text : (core : Core) (moment : Moment) (bytes rest : List ℕ) (fault : LogFault) (left : Option (List ℕ)) → (IsAtEnd left → rest ≡ [])
    → (length bytes < length (concat (block_at core moment)) → IsAtEnd left) → IsFault core moment bytes fault → IsFault core moment (bytes ++ rest) fault
fault_of_text core moment bytes rest fault left none end is = elim (cases_lt (length bytes) (length (concat (block_at core moment)))) [
  | inl less ↦ subst (λ all. IsFault core moment all fault) (sym (append-nil bytes) ∙ ap (λ more. bytes ++ more) (sym (none (end less)))) is
  | inr past ↦ fault_stays core moment bytes rest fault past is
]

-- a want of the log that fails, after others were made
module _ (core : Core) (log : List ℕ) (apart : IsApart core log) where
  pub log_want_fails : (taken : List (List ℕ × List ℕ)) (acts whole rest : List Act) (count : ℕ) (bytes : List ℕ) (olds mids news : List PortView)
      → whole ≡ (acts ++ wants log count ∷ []) ++ rest → Made acts taken olds mids → ReadFailure log mids news ((log, bytes) ∷ []) []
      → length (bytes_for log (taken ++ (log, bytes) ∷ [])) < count → (Roomy mids [] → ⊥) → Untouched (log ∷ []) mids news
      → Fails (verify_few core log) [] whole olds news
  log_want_fails taken acts whole rest count bytes olds mids news is made failure few no_room untouched =
      then_fails (verify_few core log) [] acts (wants log count) rest whole taken olds mids news (is ∙ append_assoc acts (wants log count ∷ []) rest) made
      (want_fails (verify_few core log) taken log count ((log, bytes) ∷ []) mids news failure (only_of log count bytes)
      (few_of_log core log count (bytes_for log (taken ++ (log, bytes) ∷ [])) apart few) no_room untouched)

module _ (core : Core) (run : IsRunnable core) (steps : ℕ) (half : Half) (superstep : ℕ) (deeds : Deeds) (olds mids : List PortView) (logs : LogRun)
    (stands : StandsAt core steps half superstep deeds olds mids logs) (apart : IsApart core deeds.log) (within : superstep ≤ steps)
    (there : (made : ℕ) → superstep ≤ made → HasBlock made half superstep)
    (until : (good : List (List Value)) → deeds.bytes good ≡ concat (lines_until core (start core good) half superstep))
    (acts : (good : List (List Value)) → deeds.acts good ++ compared core good deeds.log half superstep ∷ [] ≡ acts_through core good deeds.log steps half superstep)
    (news : List PortView) where
  abbrev lines : List (List ℕ)
  lines = block_at core (moment_of logs)

  -- how many bytes are wanted in all
  abbrev count : ℕ
  count = length (bytes_for deeds.log stands.taken) + length (concat lines)

  module _ (inputs : Inputs) (can : MayCome core (queue_at (engine_of logs)) stands.taken inputs) where
    abbrev Before : List ℕ
    Before = concat (lines_until core (start core inputs.good) half superstep)

    had : bytes_for deeds.log stands.taken ≡ Before
    had = stands.logged apart inputs can ∙ until inputs.good

    lines_are : lines ≡ block_at core (moment_at core (start core inputs.good) half superstep)
    lines_are = block_there core steps half superstep deeds olds mids logs stands inputs can

    through : Before ++ concat lines ≡ concat (lines_through core (start core inputs.good) half superstep)
    through =
        ap (λ (all : List (List ℕ)). Before ++ concat all) lines_are
        ∙ sym (concat-append (lines_until core (start core inputs.good) half superstep) (block_at core (moment_at core (start core inputs.good) half superstep)))
        ∙ ap concat (sym (through_is core (start core inputs.good) half superstep))

    count_is : count ≡ length (concat (lines_through core (start core inputs.good) half superstep))
    count_is = ap (λ bytes. length bytes + length (concat lines)) had ∙ sym (length-append Before (concat lines)) ∙ ap length through

    acts_are : deeds.acts inputs.good ++ wants deeds.log count ∷ [] ≡ acts_through core inputs.good deeds.log steps half superstep
    acts_are = ap (λ k. deeds.acts inputs.good ++ wants deeds.log k ∷ []) count_is ∙ acts inputs.good

    made : HasBlock (supersteps_made core inputs steps) half superstep
    made = there (supersteps_made core inputs steps) (made_least core inputs steps superstep within (stands.unblocked inputs can))

  module _ (bytes : List ℕ) (untouched : Untouched (deeds.log ∷ []) mids news) where
    abbrev after : Deeds
    after = record { log = deeds.log; bytes = λ good. deeds.bytes good ++ bytes; acts = λ good. deeds.acts good ++ wants deeds.log count ∷ [] }

    module _ (progress : Progress mids news ((deeds.log, bytes) ∷ []) []) where
      abbrev stood : StandsAt core steps half superstep after olds news logs
      stood = read_on core steps half superstep deeds olds mids logs stands apart bytes count news progress untouched

      earlier : (inputs : Inputs) → MayCome core (queue_at (engine_of logs)) stood.taken inputs → MayCome core (queue_at (engine_of logs)) stands.taken inputs
      earlier inputs can = might_come core steps half superstep deeds olds mids logs stands apart bytes count news progress untouched inputs can

      pub agrees : bytes ≡ concat lines → StandsAt core steps half superstep (agreed core deeds.log steps half superstep) olds news logs
      agrees same = restated core steps half superstep after olds news logs stood (agreed core deeds.log steps half superstep) refl
          (λ inputs can. acts_are inputs (earlier inputs can))
          (λ inputs can. ap (λ front. front ++ bytes) (until inputs.good) ∙ ap (λ more. Before inputs (earlier inputs can) ++ more) same ∙ through inputs (earlier inputs can))

      module _ (fault : LogFault) (end : length bytes < length (concat lines) → IsAtEnd (left_of deeds.log news)) (is : IsFault core (moment_of logs) bytes fault) where
        abbrev coming : Comes core olds
        coming = comes core run steps half superstep after olds news logs stood

        can_now : MayCome core (queue_at (engine_of logs)) stood.taken coming.inputs
        can_now = may core run steps half superstep after olds news logs stood

        can_then : MayCome core (queue_at (engine_of logs)) stands.taken coming.inputs
        can_then = earlier coming.inputs can_now

        fails_there : FailsAt core coming.inputs steps (coming.texts deeds.log) half superstep fault
        fails_there =
            let t = text_read core run steps half superstep after olds news logs stood deeds.log in
            let front : List ℕ = concat (lines_until core (start core coming.inputs.good) half superstep) in
            record {
              there = made coming.inputs can_then;
              rest = bytes ++ t.0;
              agrees = t.1 ∙ ap (λ all. all ++ t.0) (stood.logged apart coming.inputs can_now) ∙ ap (λ all. (all ++ bytes) ++ t.0) (until coming.inputs.good)
                  ∙ append_assoc front bytes t.0;
              is_fault = fault_there core (moment_of logs) (moment_at core (start core coming.inputs.good) half superstep) (bytes ++ t.0) fault
                  (lines_are coming.inputs can_then) (stands.is_half ∙ at_half half superstep) (stands.is_superstep ∙ at_number half superstep)
                  (fault_of_text core (moment_of logs) bytes t.0 fault (left_of deeds.log news) t.2 end is);
            }
          where
            at_half : (h : Half) (k : ℕ) → h ≡ (moment_at core (start core coming.inputs.good) h k).half
            at_half Mid k = refl
            at_half End k = refl

            at_number : (h : Half) (k : ℕ) → k ≡ (moment_at core (start core coming.inputs.good) h k).superstep
            at_number Mid k = refl
            at_number End k = refl

        pub judged_wrong : Judges core deeds.log steps olds news (Some (Wrong fault))
        judged_wrong = record {
          comes = coming;
          outcome = fails half superstep fault;
          is = is_wrong half superstep fault fails_there;
          taken = stood.taken;
          made = subst (λ (all : List Act). Made all stood.taken olds news) (stood.did coming.inputs can_now ∙ acts_are coming.inputs can_then) stood.made;
          stops = refl;
        }

    -- its read failed
    pub compare_fails : ReadFailure deeds.log mids news ((deeds.log, bytes) ∷ []) [] → length bytes < length (concat lines) → (Roomy mids [] → ⊥)
        → FailsToJudge core deeds.log steps olds news
    compare_fails failure few no_room =
        let coming = comes core run steps half superstep deeds olds mids logs stands in
        let can = may core run steps half superstep deeds olds mids logs stands in
        let t = text_read core run steps half superstep deeds olds mids logs stands deeds.log in
        let found = some_outcome core coming.inputs steps (coming.texts deeds.log) in
        let begins = reads_through core deeds.log steps coming.inputs (coming.texts deeds.log) half superstep (made coming.inputs can)
        (t.0, t.1 ∙ ap (λ front. front ++ t.0) (had coming.inputs can)) found.0 found.1 in
        let same : acts_through core coming.inputs.good deeds.log steps half superstep ≡ stands.acts ++ wants deeds.log count ∷ [] =
        sym (ap (λ front. front ++ wants deeds.log count ∷ []) (stands.did coming.inputs can) ∙ acts_are coming.inputs can) in
        let read = ap length (bytes_for-append deeds.log stands.taken ((deeds.log, bytes) ∷ [])
        ∙ ap (λ last. bytes_for deeds.log stands.taken ++ last) (bytes_for-one deeds.log bytes)) ∙ length-append (bytes_for deeds.log stands.taken) bytes in
        record {
          comes = coming;
          outcome = found.0;
          is = found.1;
          fails = log_want_fails core deeds.log apart stands.taken stands.acts (verify_reads core coming.inputs deeds.log steps found.0) begins.0 count bytes olds mids news
              (begins.1 ∙ ap (λ front. front ++ begins.0) same) stands.made failure (omega (arith, read, few)) no_room untouched;
        }

  -- how a comparison ends
  module _ (untouched : Untouched (deeds.log ∷ []) mids news) where
    pub compared_on : Compares core (moment_of logs) deeds.log mids news (Ok None)
        → StandsAt core steps half superstep (agreed core deeds.log steps half superstep) olds news logs
    compared_on c = agrees c.bytes untouched c.reads c.ends.1

    pub compared_wrong : (fault : LogFault) → Compares core (moment_of logs) deeds.log mids news (Ok (Some fault)) → Judges core deeds.log steps olds news (Some (Wrong fault))
    compared_wrong fault c = judged_wrong c.bytes untouched c.reads fault c.ends.0.end c.ends.1

    pub compared_failed : (failed : Failed) → Compares core (moment_of logs) deeds.log mids news (Err failed) → FailsToJudge core deeds.log steps olds news
    compared_failed failed c = compare_fails c.bytes untouched c.reads c.ends (λ roomy. true≢false (sym (c.roomy roomy)))
