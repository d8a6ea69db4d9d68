-- The supersteps of a run by which a log is verified, in turn.
use Rattle.std.proofs.Common.{◌≡◌, ℕ, suc, ◌+◌, ◌-◌, ◌<◌, ◌≤◌, ◌^◌, true, List, [], ◌∷◌, ◌++◌, length, Option, None, Some, Result, Ok, Err, refl, ap, sym, ◌∙◌, subst, arith}
use Rattle.std.specs.List.{concat}
use Rattle.hume_base.specs.declared.types.Value.{Value}
use Rattle.hume_model.specs.declared.core_tree.Core.{Core}
use Rattle.hume_net.specs.Start.{start}
use Rattle.hume_ports.specs.declared.port.Failed.{Failed}
use Rattle.hume_ports.specs.Port.{PortView}
use Rattle.hume_ports.specs.Ports.{names, place_of, ForNameAt, Untouched}
use Rattle.port_acts.specs.Acts.{Act}
use Rattle.port_acts.specs.Ends.{Fails, Made}
use Rattle.port_acts.proofs.Failing.{Fails-stop}
use Rattle.phase_workers.specs.Engines.{queue_at}
use Rattle.phase_workers.specs.Runnable.{IsRunnable}
use Rattle.run_log.specs.declared.fault.LogFault.{LogFault}
use Rattle.run_log.specs.declared.half.Half.TheVariants.{Mid, End}
use Rattle.run_log.specs.declared.log_run.LogRun.{LogRun}
use Rattle.run_log.specs.Compared.{Compares}
use Rattle.run_log.specs.Logs.{log_of}
use Rattle.run_log.specs.Moments.{Moment, core_in, engine_of, moment_of, next_half}
use Rattle.run_rounds.specs.declared.bad_line.BadLine.{BadLine}
use Rattle.run_rounds.specs.RunActs.{blocked_wants}
use Rattle.log_rounds.specs.declared.verifying.Stop.{Stop}
use Rattle.log_rounds.specs.declared.verifying.Stop.TheVariants.{Wrong, Bad}
use Rattle.log_rounds.specs.Opened.{IsApart}
use Rattle.log_rounds.specs.Outcomes.{HasBlock, blocked, is_blocked, lines_until}
use Rattle.log_rounds.specs.VerifyActs.{acts_through, agreeing_acts, compared, verify_few}
use Rattle.log_rounds.specs.inner.Standing.{Deeds, StandsAt}
use Rattle.log_rounds.specs.inner.Steps.{EndsAgreeing, FailsFilling, FailsToJudge, HasVerified, IsNext, Judges, StandsBlocked, StandsFilling, filling, verified}
use Rattle.log_rounds.proofs.Halting.{bad_line, blocked_now, blocks_now, came, may_come}
use Rattle.log_rounds.proofs.Halves.{half_begun, half_ended}
use Rattle.log_rounds.proofs.Outcomes.{some_outcome}
use Rattle.log_rounds.proofs.Standings.{text_on}
use Rattle.log_rounds.proofs.VerifiedActs.{end_acts, mid_acts, reads_want}
use Rattle.log_rounds.proofs.VerifySteps.{agreed, compared_failed, compared_on, compared_wrong}

module _ (core : Core) (run : IsRunnable core) (log : List ℕ) (apart : IsApart core log) (steps done : ℕ) (olds : List PortView) where
  abbrev its : Deeds
  its = verified core log steps done

  -- a read of a stream failed
  pub fill_fails : (news : List PortView) → FailsFilling core steps done its olds news → FailsToJudge core log steps olds news
  fill_fails news f =
      let text = f.text apart in
      let found = some_outcome core f.comes.inputs steps (f.comes.texts log) in
      let first = reads_want core log steps f.comes.inputs (f.comes.texts log) done f.node f.is f.unblocked f.within f.begun text found.0 found.1 in
      let acts : List Act = (filling core steps done (f.node + 1) its).acts f.comes.inputs.good in
      record {
        comes = f.comes;
        outcome = found.0;
        is = found.1;
        fails = subst (λ all. Fails (verify_few core log) [] all olds news) (sym first.1) (Fails-stop (verify_few core log) [] acts first.0 olds news (f.apart apart));
      }

  -- a bad line halted it
  pub judged_bad : (small : steps < 2 ^ 32) (news : List PortView) (logs : LogRun) (bad : BadLine) → StandsBlocked core steps done its olds news logs bad
      → Judges core log steps olds news (Some (Bad bad))
  judged_bad small news logs bad halts =
      let did : Deeds = filling core steps done (bad.node + 1) its in
      let coming = came core run steps done small its olds news logs bad halts in
      let can = may_come core run steps done small its olds news logs bad halts in
      let text = text_on core run steps End done did olds news logs halts.stands apart in
      let stop = blocked_now core run steps done small its olds news logs bad halts in
      let by = blocks_now core run steps done small its olds news logs bad halts in
      let at : done ≡ suc done - 1 = omega arith in
      record {
        comes = coming;
        outcome = blocked (suc done) bad.node;
        is = is_blocked (suc done) bad.node stop by text.0 (text.1 ∙ ap (λ k. log_of core coming.inputs.good k ++ text.0) at);
        taken = halts.stands.taken;
        made = subst (λ (acts : List Act). Made acts halts.stands.taken olds news)
            (halts.stands.did coming.inputs can
            ∙ ap (λ k. agreeing_acts core coming.inputs.good log steps k ++ blocked_wants core coming.inputs true steps (suc done) (Some bad.node)) at)
            halts.stands.made;
        stops = (bad.line, bad_line core run steps done small its olds news logs bad halts, refl);
      }

  abbrev first : Deeds
  first = filling core steps done (length core.nodes) its

  mid_there : (made : ℕ) → suc done ≤ made → HasBlock made Mid (suc done)
  mid_there made within = (omega arith, within)

  mid_until : (good : List (List Value)) → first.bytes good ≡ concat (lines_until core (start core good) Mid (suc done))
  mid_until good = (let at : done ≡ suc done - 1 = omega arith in ap (λ k. log_of core good k) at)

  mid_are : (good : List (List Value)) → first.acts good ++ compared core good log Mid (suc done) ∷ [] ≡ acts_through core good log steps Mid (suc done)
  mid_are good = sym (mid_acts core log steps good done)

  abbrev second : Deeds
  second = agreed core log steps Mid (suc done)

  end_are : (good : List (List Value)) → second.acts good ++ compared core good log End (suc done) ∷ [] ≡ acts_through core good log steps End (suc done)
  end_are good = sym (end_acts core log steps good done)

  module _ (filled begun : LogRun) (ports mids : List PortView) (same : core_in filled ≡ core)
      (so_far : StandsFilling core steps done (length core.nodes) its olds ports filled)
      (core_begun : core_in begun ≡ core_in filled) (queues_begun : (n : ℕ) → queue_at (engine_of begun) n ≡ queue_at (engine_of filled) n)
      (moment_begun : moment_of begun ≡ next_half (core_in filled) (moment_of filled)) (untouched_mid : Untouched (log ∷ []) ports mids) where
    less : done < steps
    less = so_far.is

    within : suc done ≤ steps
    within = omega (arith, less)

    next_mid : moment_of begun ≡ next_half core (moment_of filled)
    next_mid = moment_begun ∙ ap (λ c. next_half c (moment_of filled)) same

    stands_mid : StandsAt core steps Mid (suc done) first olds ports begun
    stands_mid = half_begun core run steps done its olds ports filled begun so_far (core_begun ∙ same) queues_begun next_mid

    abbrev ComparesMid : Result (Option LogFault) Failed → Type 0
    ComparesMid result = Compares (core_in filled) (next_half (core_in filled) (moment_of filled)) log ports mids result

    own_mid : (result : Result (Option LogFault) Failed) → ComparesMid result → Compares core (moment_of begun) log ports mids result
    own_mid result c = subst (λ m. Compares core m log ports mids result) (sym next_mid)
        (subst (λ its. Compares its (next_half its (moment_of filled)) log ports mids result) same c)

    pub mid_wrong : (fault : LogFault) → ComparesMid (Ok (Some fault)) → Judges core log steps olds mids (Some (Wrong fault))
    mid_wrong fault c = compared_wrong core run steps Mid (suc done) first olds ports begun stands_mid apart within mid_there mid_until mid_are mids untouched_mid fault
        (own_mid (Ok (Some fault)) c)

    pub mid_failed : (failed : Failed) → ComparesMid (Err failed) → FailsToJudge core log steps olds mids
    mid_failed failed c = compared_failed core run steps Mid (suc done) first olds ports begun stands_mid apart within mid_there mid_until mid_are mids untouched_mid failed
        (own_mid (Err failed) c)

    module _ (ended : LogRun) (news : List PortView) (compared_mid : ComparesMid (Ok None)) (core_ended : core_in ended ≡ core_in begun)
        (queues_ended : (n : ℕ) → queue_at (engine_of ended) n ≡ queue_at (engine_of begun) n)
        (moment_ended : moment_of ended ≡ next_half (core_in begun) (moment_of begun)) (untouched_end : Untouched (log ∷ []) mids news) where
      its_core : core_in begun ≡ core
      its_core = core_begun ∙ same

      next_end : moment_of ended ≡ next_half core (moment_of begun)
      next_end = moment_ended ∙ ap (λ c. next_half c (moment_of begun)) its_core

      stands_agreed : StandsAt core steps Mid (suc done) second olds mids begun
      stands_agreed = compared_on core run steps Mid (suc done) first olds ports begun stands_mid apart within mid_there mid_until mid_are mids untouched_mid
          (own_mid (Ok None) compared_mid)

      stands_end : StandsAt core steps End (suc done) second olds mids ended
      stands_end = half_ended core steps done second olds mids begun ended stands_agreed (core_ended ∙ its_core) queues_ended next_end

      abbrev ComparesEnd : Result (Option LogFault) Failed → Type 0
      ComparesEnd result = Compares (core_in begun) (next_half (core_in begun) (moment_of begun)) log mids news result

      own_end : (result : Result (Option LogFault) Failed) → ComparesEnd result → Compares core (moment_of ended) log mids news result
      own_end result c = subst (λ m. Compares core m log mids news result) (sym next_end)
          (subst (λ its. Compares its (next_half its (moment_of begun)) log mids news result) its_core c)

      pub end_wrong : (fault : LogFault) → ComparesEnd (Ok (Some fault)) → Judges core log steps olds news (Some (Wrong fault))
      end_wrong fault c = compared_wrong core run steps End (suc done) second olds mids ended stands_end apart within (λ made is. is) (λ good. refl) end_are news untouched_end fault
          (own_end (Ok (Some fault)) c)

      pub end_failed : (failed : Failed) → ComparesEnd (Err failed) → FailsToJudge core log steps olds news
      end_failed failed c = compared_failed core run steps End (suc done) second olds mids ended stands_end apart within (λ made is. is) (λ good. refl) end_are news untouched_end failed
          (own_end (Err failed) c)

      pub end_agrees : ComparesEnd (Ok None) → HasVerified core log steps (suc done) olds news ended
      end_agrees c = compared_on core run steps End (suc done) second olds mids ended stands_end apart within (λ made is. is) (λ good. refl) end_are news untouched_end
          (own_end (Ok None) c)

-- the supersteps so far

-- So many supersteps agree with the log.
pub record Agreeing (log steps : ℕ) (before ports : List PortView) (first run : LogRun) (done : ℕ) : Type 0 where
  pub is_core : core_in run ≡ core_in first
  pub same_names : names ports ≡ names before
  pub most : done ≤ steps
  pub is_half : (moment_of run).half ≡ End
  pub is_superstep : (moment_of run).superstep ≡ done
  pub stands : (name : List ℕ) (olds : List PortView) → place_of name (names before) ≡ Some log
      → HasVerified (core_in first) name steps 0 olds before first → HasVerified (core_in first) name steps done olds ports run

pub agreeing_none : (log steps : ℕ) (ports : List PortView) (run : LogRun) → (moment_of run).half ≡ End → (moment_of run).superstep ≡ 0
    → Agreeing log steps ports ports run run 0
agreeing_none log steps ports run half superstep = record {
  is_core = refl;
  same_names = refl;
  most = omega arith;
  is_half = half;
  is_superstep = superstep;
  stands = λ name olds place stands. stands;
}

-- how a superstep ends, from any standing
abbrev SuperstepEnds : Core → ℕ → List PortView → List PortView → LogRun → LogRun → Result (Option Stop) Failed → Type 0
SuperstepEnds core log mids news run new result = (name : List ℕ) (steps done : ℕ) (olds : List PortView) → done < steps → steps < 2 ^ 32
    → place_of name (names mids) ≡ Some log → HasVerified core name steps done olds mids run → EndsAgreeing core name steps (suc done) olds news new result

module _ (log steps : ℕ) (before mids news : List PortView) (first run new : LogRun) (done : ℕ) (it : Agreeing log steps before mids first run done)
    (less : done < steps) (small : steps < 2 ^ 32) (result : Result (Option Stop) Failed) (ends : SuperstepEnds (core_in run) log mids news run new result) where
  own : (other : Result (Option Stop) Failed) → result ≡ other → (name : List ℕ) (olds : List PortView) → place_of name (names before) ≡ Some log
      → HasVerified (core_in first) name steps 0 olds before first → EndsAgreeing (core_in first) name steps (suc done) olds news new other
  own other same name olds place stands =
      let here = ends name steps done olds less small (ap (place_of name) it.same_names ∙ place)
      (subst (λ c. HasVerified c name steps done olds mids run) (sym it.is_core) (it.stands name olds place stands)) in
      subst (EndsAgreeing (core_in first) name steps (suc done) olds news new) same
      (subst (λ c. EndsAgreeing c name steps (suc done) olds news new result) it.is_core here)

  pub agreeing_next : result ≡ Ok None → IsNext {T = Stop} run new result → core_in new ≡ core_in run → names news ≡ names mids
      → Agreeing log steps before news first new (done + 1)
  agreeing_next is next same_core same =
      let one : suc done ≡ done + 1 = omega arith in
      let made : IsNext {T = Stop} run new (Ok None) = subst (IsNext {T = Stop} run new) is next in
      record {
        is_core = same_core ∙ it.is_core;
        same_names = same ∙ it.same_names;
        most = omega (arith, less);
        is_half = made.0;
        is_superstep = made.1 ∙ ap (λ k. k + 1) it.is_superstep;
        stands = λ name olds place stands. subst (λ k. HasVerified (core_in first) name steps k olds news new) one (own (Ok None) is name olds place stands);
      }

  module _ (name : List ℕ) (olds : List PortView) (place : place_of name (names before) ≡ Some log) (stands : HasVerified (core_in first) name steps 0 olds before first) where
    pub agreeing_stopped : (stop : Stop) → result ≡ Ok (Some stop) → Judges (core_in first) name steps olds news (Some stop)
    agreeing_stopped stop is = own (Ok (Some stop)) is name olds place stands

    pub agreeing_failed : (failed : Failed) → result ≡ Err failed → FailsToJudge (core_in first) name steps olds news
    agreeing_failed failed is = own (Err failed) is name olds place stands

pub agreeing_over : (log steps : ℕ) (before mids : List PortView) (first run : LogRun) (done : ℕ) → Agreeing log steps before mids first run done → steps ≤ done
    → (name : List ℕ) (olds : List PortView) → place_of name (names before) ≡ Some log
    → HasVerified (core_in first) name steps 0 olds before first → HasVerified (core_in first) name steps steps olds mids run
agreeing_over log steps before mids first run done it past name olds place stands =
    let most = it.most in
    let all : done ≡ steps = omega (arith, past, most) in
    subst (λ k. HasVerified (core_in first) name steps k olds mids run) all (it.stands name olds place stands)

-- a comparison whose result is known
pub compares_known : (core : Core) (moment : Moment) (name : List ℕ) (at : ℕ) (olds news : List PortView) (result other : Result (Option LogFault) Failed) → result ≡ other
    → place_of name (names olds) ≡ Some at → ForNameAt at olds (λ log. Compares core moment log olds news result) → Compares core moment name olds news other
compares_known core moment name at olds news result other same place compares = subst (Compares core moment name olds news) same (compares name place)

-- the moment that a half has led to
pub compares_as : (core other : Core) (moment next : Moment) (at : ℕ) (olds news : List PortView) (result : Result (Option LogFault) Failed) → other ≡ core → moment ≡ next
    → ForNameAt at olds (λ log. Compares other moment log olds news result) → ForNameAt at olds (λ log. Compares core next log olds news result)
compares_as core other moment next at olds news result same is compares =
    subst (λ m. ForNameAt at olds (λ log. Compares core m log olds news result)) is
    (subst (λ c. ForNameAt at olds (λ log. Compares c moment log olds news result)) same compares)

-- no stream names the log's port, wherever the names are the same
pub apart_at : (core : Core) (at : ℕ) (name : List ℕ) (ports : List PortView) → ForNameAt at ports (IsApart core) → place_of name (names ports) ≡ Some at → IsApart core name
apart_at core at name ports own place = own name place

-- and so in later calls
pub own_on : (core other : Core) (at : ℕ) (olds news : List PortView) → other ≡ core → names news ≡ names olds → ForNameAt at olds (IsApart core) → ForNameAt at news (IsApart other)
own_on core other at olds news same kept own name place =
    subst (λ c. IsApart c name) (sym same) (own name (ap (place_of name) (sym kept) ∙ place))
