-- The supersteps of a recorded run, in turn, and how it ends.
use Rattle.std.proofs.Common.{◌≡◌, ℕ, suc, ◌+◌, ◌<◌, ◌≤◌, ◌^◌, true, false, List, [], ◌∷◌, ◌++◌, Option, None, Some, slice_get, Result, Ok, Err, refl, ap, sym, ◌∙◌, subst, arith, append-nil}
use Rattle.std.specs.Option.{is_some, unwrap_or}
use Rattle.hume_model.specs.declared.core_tree.Core.{Core}
use Rattle.hume_ports.specs.declared.port.Failed.{Failed}
use Rattle.hume_ports.specs.Port.{PortView}
use Rattle.hume_ports.specs.Ports.{names, place_of}
use Rattle.port_acts.specs.Acts.{Act, write_each, writes}
use Rattle.port_acts.specs.Ends.{Ends, Fails, Made, never}
use Rattle.port_acts.proofs.Failing.{Fails-any, Fails-on}
use Rattle.port_acts.proofs.Making.{Made-on}
use Rattle.phase_workers.specs.Engines.{queue_at}
use Rattle.phase_workers.specs.Runnable.{IsRunnable}
use Rattle.run_log.specs.declared.half.Half.TheVariants.{End}
use Rattle.run_log.specs.declared.log_run.LogRun.{LogRun}
use Rattle.run_log.specs.Moments.{core_in, engine_of, moment_of}
use Rattle.run_rounds.specs.declared.bad_line.BadLine.{BadLine}
use Rattle.run_rounds.specs.RunActs.{run_few}
use Rattle.run_rounds.specs.Runs.{Comes}
use Rattle.run_rounds.specs.Streams.{std_out}
use Rattle.run_rounds.specs.Writes.{bad_value_line, bad_value_writes, name_of}
use Rattle.run_rounds.specs.inner.Reading.{MayCome}
use Rattle.log_rounds.specs.Ended.{FailsToRecord, Records}
use Rattle.log_rounds.specs.RecordActs.{record_acts}
use Rattle.log_rounds.specs.Supersteps.{blocked_superstep}
use Rattle.log_rounds.specs.inner.Standing.{Deeds, StandsAt}
use Rattle.log_rounds.specs.inner.Steps.{EndsSuperstep, EndsSupersteps, HaltsRecord, HasRecorded, IsNext, filling, recorded}
use Rattle.log_rounds.proofs.Standings.{comes, may}
use Rattle.log_rounds.proofs.Halting.{bad_line, blocked_now, blocks_now, came, may_come}
use Rattle.log_rounds.proofs.RecordedActs.{all_logged, logged_to_bad}
use Rattle.log_rounds.proofs.Supersteps.{none_blocked}

-- So many supersteps were recorded.
pub record Recording (log steps : ℕ) (before ports : List PortView) (first run : LogRun) (done : ℕ) : Type 0 where
  pub is_core : core_in run ≡ core_in first
  pub same_names : names ports ≡ names before
  pub most : done ≤ steps
  pub is_half : (moment_of run).half ≡ End
  pub is_superstep : (moment_of run).superstep ≡ done
  pub stands : (name : List ℕ) (olds : List PortView) → place_of name (names before) ≡ Some log
      → HasRecorded (core_in first) name steps 0 olds before first → HasRecorded (core_in first) name steps done olds ports run

pub recording_none : (log steps : ℕ) (ports : List PortView) (run : LogRun) → (moment_of run).half ≡ End → (moment_of run).superstep ≡ 0
    → Recording log steps ports ports run run 0
recording_none log steps ports run half superstep = record {
  is_core = refl;
  same_names = refl;
  most = omega arith;
  is_half = half;
  is_superstep = superstep;
  stands = λ name olds place stands. stands;
}

-- how a superstep ends, from any standing
abbrev SuperstepEnds : Core → ℕ → List PortView → List PortView → LogRun → LogRun → Result (Option BadLine) Failed → Type 0
SuperstepEnds core log mids news run new result = (name : List ℕ) (steps done : ℕ) (olds : List PortView) → done < steps
    → place_of name (names mids) ≡ Some log → HasRecorded core name steps done olds mids run → EndsSuperstep core name steps done olds news new result

module _ (log steps : ℕ) (before mids news : List PortView) (first run new : LogRun) (done : ℕ) (it : Recording log steps before mids first run done)
    (less : done < steps) (result : Result (Option BadLine) Failed) (ends : SuperstepEnds (core_in run) log mids news run new result) where
  own : (other : Result (Option BadLine) Failed) → result ≡ other → (name : List ℕ) (olds : List PortView) → place_of name (names before) ≡ Some log
      → HasRecorded (core_in first) name steps 0 olds before first → EndsSuperstep (core_in first) name steps done olds news new other
  own other same name olds place stands =
      let here = ends name steps done olds less (ap (place_of name) it.same_names ∙ place)
      (subst (λ c. HasRecorded c name steps done olds mids run) (sym it.is_core) (it.stands name olds place stands)) in
      subst (EndsSuperstep (core_in first) name steps done olds news new) same
      (subst (λ c. EndsSuperstep c name steps done olds news new result) it.is_core here)

  pub recording_next : result ≡ Ok None → IsNext {T = BadLine} run new result → core_in new ≡ core_in run → names news ≡ names mids
      → Recording log steps before news first new (done + 1)
  recording_next is next same_core same =
      let one : suc done ≡ done + 1 = omega arith in
      let made : IsNext {T = BadLine} run new (Ok None) = subst (IsNext {T = BadLine} run new) is next in
      record {
        is_core = same_core ∙ it.is_core;
        same_names = same ∙ it.same_names;
        most = omega (arith, less);
        is_half = made.0;
        is_superstep = made.1 ∙ ap (λ k. k + 1) it.is_superstep;
        stands = λ name olds place stands. subst (λ k. HasRecorded (core_in first) name steps k olds news new) one (own (Ok None) is name olds place stands);
      }

  module _ (name : List ℕ) (olds : List PortView) (place : place_of name (names before) ≡ Some log) (stands : HasRecorded (core_in first) name steps 0 olds before first) where
    pub recording_halted : (bad : BadLine) → result ≡ Ok (Some bad) → EndsSupersteps (core_in first) name steps olds news new (Ok (Some bad))
    recording_halted bad is = own (Ok (Some bad)) is name olds place stands

    pub recording_failed : (failed : Failed) → result ≡ Err failed → EndsSupersteps (core_in first) name steps olds news new (Err failed)
    recording_failed failed is = own (Err failed) is name olds place stands

pub recording_over : (log steps : ℕ) (before mids : List PortView) (first run : LogRun) (done : ℕ) → Recording log steps before mids first run done → steps ≤ done
    → (name : List ℕ) (olds : List PortView) → place_of name (names before) ≡ Some log
    → HasRecorded (core_in first) name steps 0 olds before first → EndsSupersteps (core_in first) name steps olds mids run (Ok None)
recording_over log steps before mids first run done it past name olds place stands =
    let most = it.most in
    let all : done ≡ steps = omega (arith, past, most) in
    subst (λ k. HasRecorded (core_in first) name steps k olds mids run) all (it.stands name olds place stands)

-- how a recorded run ends
module _ (core : Core) (run : IsRunnable core) (log : List ℕ) (steps : ℕ) (olds mids : List PortView) (logs : LogRun) where
  -- all supersteps were made
  pub all_recorded : HasRecorded core log steps steps olds mids logs → Records core log steps olds mids false
  all_recorded stands =
      let did : Deeds = recorded core log steps steps in
      let coming = comes core run steps End steps did olds mids logs stands in
      let can = may core run steps End steps did olds mids logs stands in
      let none = none_blocked core coming.inputs steps (λ superstep least most. stands.unblocked coming.inputs can superstep least most) in
      record {
        comes = coming;
        taken = stands.taken;
        made = subst (λ (acts : List Act). Made acts stands.taken olds mids) (stands.did coming.inputs can ∙ sym (all_logged core log steps coming.inputs none)) stands.made;
        blocks = sym (ap is_some none);
      }

  -- a bad line halted it
  module _ (small : steps < 2 ^ 32) (bad : BadLine) (halts : HaltsRecord core log steps olds mids logs bad) where
    abbrev its : Deeds
    its = recorded core log steps halts.done

    abbrev did : Deeds
    did = filling core steps halts.done (bad.node + 1) its

    abbrev halted : StandsAt core steps End halts.done did olds mids logs
    halted = halts.blocked.stands

    abbrev coming : Comes core olds
    coming = came core run steps halts.done small its olds mids logs bad halts.blocked

    can : MayCome core (queue_at (engine_of logs)) halted.taken coming.inputs
    can = may_come core run steps halts.done small its olds mids logs bad halts.blocked

    stop : blocked_superstep core coming.inputs steps ≡ Some (suc halts.done)
    stop = blocked_now core run steps halts.done small its olds mids logs bad halts.blocked

    abbrev told : List Act
    told = writes std_out (bad_value_line (name_of (slice_get core.nodes bad.node)) bad.line) ∷ []

    acts_are : record_acts core coming.inputs log steps ≡ halted.acts ++ told
    acts_are =
        let line = bad_line core run steps halts.done small its olds mids logs bad halts.blocked in
        logged_to_bad core log steps coming.inputs halts.done bad.node stop (blocks_now core run steps halts.done small its olds mids logs bad halts.blocked)
        ∙ ap (λ acts. acts ++ write_each (bad_value_writes core coming.inputs (Some bad.node))) (sym (halted.did coming.inputs can))
        ∙ ap (λ o. halted.acts ++ writes std_out (bad_value_line (name_of (slice_get core.nodes bad.node)) (unwrap_or o 0)) ∷ []) line

    pub bad_told : (news : List PortView) → Made told [] mids news → Records core log steps olds news true
    bad_told news made = record {
      comes = coming;
      taken = halted.taken;
      made = subst (λ (acts : List Act). Made acts halted.taken olds news) (sym acts_are)
          (subst (λ pairs. Made (halted.acts ++ told) pairs olds news) (append-nil halted.taken)
          (Made-on halted.acts told halted.taken [] olds mids news halted.made made));
      blocks = sym (ap is_some stop);
    }

    pub bad_untold : (news : List PortView) → Fails never [] told mids news → FailsToRecord core log steps olds news
    bad_untold news fails = record {
      comes = coming;
      fails = subst (λ (acts : List Act). Fails (run_few core) [] acts olds news) (sym acts_are)
          (Fails-on (run_few core) [] halted.taken halted.acts told olds mids news halted.made (Fails-any (run_few core) halted.taken told mids news fails));
    }

-- from the start on

pub supersteps_from : (core other : Core) (name : List ℕ) (steps : ℕ) (olds mids news : List PortView) (begun ended : LogRun) (result last : Result (Option BadLine) Failed)
    → other ≡ core → result ≡ last → (HasRecorded other name steps 0 olds mids begun → EndsSupersteps other name steps olds news ended result)
    → HasRecorded core name steps 0 olds mids begun → EndsSupersteps core name steps olds news ended last
supersteps_from core other name steps olds mids news begun ended result last same is ends stands =
    subst (EndsSupersteps core name steps olds news ended) is
    (subst (λ c. EndsSupersteps c name steps olds news ended result) same (ends (subst (λ c. HasRecorded c name steps 0 olds mids begun) (sym same) stands)))

pub line_known : (core other : Core) (bad : BadLine) (olds news : List PortView) (result last : Result (Unit {0}) Failed) → other ≡ core → result ≡ last
    → Ends never [] (writes std_out (bad_value_line (name_of (slice_get other.nodes bad.node)) bad.line) ∷ []) [] olds news result
    → Ends never [] (writes std_out (bad_value_line (name_of (slice_get core.nodes bad.node)) bad.line) ∷ []) [] olds news last
line_known core other bad olds news result last same is ends =
    subst (λ r. Ends never [] (writes std_out (bad_value_line (name_of (slice_get core.nodes bad.node)) bad.line) ∷ []) [] olds news r) is
    (subst (λ (c : Core). Ends never [] (writes std_out (bad_value_line (name_of (slice_get c.nodes bad.node)) bad.line) ∷ []) [] olds news result) same ends)
