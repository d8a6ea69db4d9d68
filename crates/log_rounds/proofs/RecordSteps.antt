-- One half of a recorded run, and a superstep of it.
use Rattle.std.proofs.Common.{◌≡◌, ℕ, suc, ◌+◌, ◌<◌, ◌≤◌, true, List, [], ◌++◌, length, Option, None, Some, Result, refl, ap, sym, ◌∙◌, subst, arith, append_assoc, append-nil}
use Rattle.hume_base.specs.declared.types.Value.{Value}
use Rattle.hume_model.specs.declared.core_tree.Core.{Core}
use Rattle.hume_net.specs.Start.{start}
use Rattle.hume_ports.specs.declared.port.Failed.{Failed}
use Rattle.hume_ports.specs.Port.{PortView}
use Rattle.hume_ports.specs.Ports.{names, place_of}
use Rattle.port_acts.specs.Acts.{Act}
use Rattle.port_acts.specs.Ends.{Ends, Fails, Made, never}
use Rattle.port_acts.proofs.Failing.{Fails-any, Fails-on, Fails-stop}
use Rattle.phase_workers.specs.Engines.{queue_at}
use Rattle.phase_workers.specs.Runnable.{IsRunnable}
use Rattle.trace_print.specs.InTurn.{EndsLines, lines_to}
use Rattle.run_log.specs.declared.half.Half.{Half}
use Rattle.run_log.specs.declared.half.Half.TheVariants.{Mid, End}
use Rattle.run_log.specs.declared.log_run.LogRun.{LogRun}
use Rattle.run_log.specs.Moments.{Moment, block_at, core_in, engine_of, moment_of, next_half}
use Rattle.run_rounds.specs.declared.bad_line.BadLine.{BadLine}
use Rattle.run_rounds.specs.Inputs.{Inputs}
use Rattle.run_rounds.specs.RunActs.{reading, run_few}
use Rattle.run_rounds.specs.Writes.{blocked_by}
use Rattle.run_rounds.specs.inner.Reading.{MayCome}
use Rattle.run_rounds.proofs.ActSteps.{BeginsWith}
use Rattle.log_rounds.specs.Ended.{FailsToRecord}
use Rattle.log_rounds.specs.Outcomes.{moment_at}
use Rattle.log_rounds.specs.RecordActs.{logged_acts, record_acts}
use Rattle.log_rounds.specs.inner.Standing.{Deeds, StandsAt}
use Rattle.log_rounds.specs.inner.Steps.{EndsFills, FailsFilling, HasRecorded, StandsFilling, filling, recorded}
use Rattle.log_rounds.proofs.Standings.{comes, may}
use Rattle.log_rounds.proofs.Halves.{half_begun, half_ended}
use Rattle.log_rounds.proofs.Doing.{block_there, restated, written_on}
use Rattle.log_rounds.proofs.RecordedActs.{free_first, logged_more, logging_is, noting, want_first}

-- a read before a superstep failed
pub fill_failed : (core : Core) (log : List ℕ) (steps done : ℕ) (olds news : List PortView) → FailsFilling core steps done (recorded core log steps done) olds news
    → FailsToRecord core log steps olds news
fill_failed core log steps done olds news f =
    let first = want_first core log steps f.comes.inputs done f.node f.is f.unblocked f.within f.begun in
    let acts : List Act = (filling core steps done (f.node + 1) (recorded core log steps done)).acts f.comes.inputs.good in
    record {
      comes = f.comes;
      fails = subst (λ all. Fails (run_few core) [] all olds news) (sym first.1) (Fails-stop (run_few core) [] acts first.0 olds news f.fails);
    }

-- the block of a half of a superstep, by its writes
abbrev pub block_acts : Core → List ℕ → ℕ → Half → ℕ → List (List Value) → List Act
block_acts core log steps half superstep good = noting core log steps good (block_at core (moment_at core (start core good) half superstep))

-- what was done, and then the block is written
abbrev pub noted : Core → List ℕ → ℕ → Half → ℕ → Deeds → Deeds
noted core log steps half superstep deeds = record deeds { acts = λ good. deeds.acts good ++ block_acts core log steps half superstep good }

module _ (core : Core) (run : IsRunnable core) (log : List ℕ) (steps : ℕ) (half : Half) (superstep : ℕ) (deeds : Deeds) (olds mids : List PortView) (logs : LogRun)
    (stands : StandsAt core steps half superstep deeds olds mids logs) (lines : List (List ℕ)) (lines_are : lines ≡ block_at core (moment_of logs))
    (news : List PortView) where
  are : (inputs : Inputs) → MayCome core (queue_at (engine_of logs)) stands.taken inputs → lines_to log lines ≡ block_acts core log steps half superstep inputs.good
  are inputs can = ap (λ (all : List (List ℕ)). lines_to log all) (lines_are ∙ block_there core steps half superstep deeds olds mids logs stands inputs can)

  pub half_noted : Made (lines_to log lines) [] mids news → StandsAt core steps half superstep (noted core log steps half superstep deeds) olds news logs
  half_noted made = written_on core steps half superstep deeds olds mids logs stands (lines_to log lines) news made (block_acts core log steps half superstep) are

  -- a write failed
  pub half_failed : Fails never [] (lines_to log lines) mids news
      → ((inputs : Inputs) → MayCome core (queue_at (engine_of logs)) stands.taken inputs
      → BeginsWith (record_acts core inputs log steps) ((noted core log steps half superstep deeds).acts inputs.good))
      → FailsToRecord core log steps olds news
  half_failed fails first =
      let coming = comes core run steps half superstep deeds olds mids logs stands in
      let can = may core run steps half superstep deeds olds mids logs stands in
      let acts : List Act = stands.acts ++ lines_to log lines in
      let same : (noted core log steps half superstep deeds).acts coming.inputs.good ≡ acts =
      sym (ap (λ before. before ++ lines_to log lines) (stands.did coming.inputs can) ∙ ap (λ more. deeds.acts coming.inputs.good ++ more) (are coming.inputs can)) in
      let begins = first coming.inputs can in
      let whole : record_acts core coming.inputs log steps ≡ acts ++ begins.0 = begins.1 ∙ ap (λ front. front ++ begins.0) same in
      record {
        comes = coming;
        fails = subst (λ all. Fails (run_few core) [] all olds news) (sym whole)
            (Fails-stop (run_few core) [] acts begins.0 olds news
            (Fails-on (run_few core) [] stands.taken stands.acts (lines_to log lines) olds mids news stands.made
            (Fails-any (run_few core) stands.taken (lines_to log lines) mids news fails)));
      }

-- a superstep, once its streams are filled
module _ (core : Core) (run : IsRunnable core) (log : List ℕ) (steps done : ℕ) (olds : List PortView) where
  abbrev first : Deeds
  first = filling core steps done (length core.nodes) (recorded core log steps done)

  abbrev second : Deeds
  second = noted core log steps Mid (suc done) first

  abbrev third : Deeds
  third = noted core log steps End (suc done) second

  third_is : (good : List (List Value)) → third.acts good ≡ logged_acts core good log steps (suc done)
  third_is good =
      let before : List Act = logged_acts core good log steps done in
      let read : List Act = reading core good true steps (suc done) in
      let middle : List Act = block_acts core log steps Mid (suc done) good in
      let last : List Act = block_acts core log steps End (suc done) good in
      append_assoc (before ++ read) middle last
      ∙ append_assoc before read (middle ++ last)
      ∙ ap (λ acts. before ++ (read ++ acts)) (sym (logging_is core log steps good (suc done)))
      ∙ sym (logged_more core log steps good done)

  -- all acts of the superstep come first
  third_first : done < steps → (inputs : Inputs) → ((superstep : ℕ) → 1 ≤ superstep → superstep ≤ suc done → blocked_by core inputs true steps superstep ≡ None)
      → BeginsWith (record_acts core inputs log steps) (third.acts inputs.good)
  third_first less inputs free =
      let its = free_first core log steps inputs (suc done) (omega (arith, less)) free in
      (its.0, its.1 ∙ ap (λ front. front ++ its.0) (sym (third_is inputs.good)))

  second_first : done < steps → (inputs : Inputs) → ((superstep : ℕ) → 1 ≤ superstep → superstep ≤ suc done → blocked_by core inputs true steps superstep ≡ None)
      → BeginsWith (record_acts core inputs log steps) (second.acts inputs.good)
  second_first less inputs free =
      let its = third_first less inputs free in
      let last : List Act = block_acts core log steps End (suc done) inputs.good in
      (last ++ its.0, its.1 ∙ append_assoc (second.acts inputs.good) last its.0)

  module _ (filled begun : LogRun) (ports mids : List PortView) (same : core_in filled ≡ core)
      (so_far : StandsFilling core steps done (length core.nodes) (recorded core log steps done) olds ports filled)
      (core_begun : core_in begun ≡ core_in filled) (queues_begun : (n : ℕ) → queue_at (engine_of begun) n ≡ queue_at (engine_of filled) n)
      (moment_begun : moment_of begun ≡ next_half (core_in filled) (moment_of filled)) where
    abbrev lines_mid : List (List ℕ)
    lines_mid = block_at (core_in filled) (next_half (core_in filled) (moment_of filled))

    next_mid : moment_of begun ≡ next_half core (moment_of filled)
    next_mid = moment_begun ∙ ap (λ c. next_half c (moment_of filled)) same

    stands_mid : StandsAt core steps Mid (suc done) first olds ports begun
    stands_mid = half_begun core run steps done (recorded core log steps done) olds ports filled begun so_far (core_begun ∙ same) queues_begun next_mid

    mid_are : lines_mid ≡ block_at core (moment_of begun)
    mid_are = ap (λ c. block_at c (next_half c (moment_of filled))) same ∙ ap (block_at core) (sym next_mid)

    pub mid_failed : Fails never [] (lines_to log lines_mid) ports mids → FailsToRecord core log steps olds mids
    mid_failed fails = half_failed core run log steps Mid (suc done) first olds ports begun stands_mid lines_mid mid_are mids fails
        (λ inputs can. second_first so_far.is inputs (stands_mid.unblocked inputs can))

    module _ (ended : LogRun) (news : List PortView) (made_mid : Made (lines_to log lines_mid) [] ports mids) (core_ended : core_in ended ≡ core_in begun)
        (queues_ended : (n : ℕ) → queue_at (engine_of ended) n ≡ queue_at (engine_of begun) n)
        (moment_ended : moment_of ended ≡ next_half (core_in begun) (moment_of begun)) where
      abbrev lines_end : List (List ℕ)
      lines_end = block_at (core_in begun) (next_half (core_in begun) (moment_of begun))

      its_core : core_in begun ≡ core
      its_core = core_begun ∙ same

      next_end : moment_of ended ≡ next_half core (moment_of begun)
      next_end = moment_ended ∙ ap (λ c. next_half c (moment_of begun)) its_core

      stands_noted : StandsAt core steps Mid (suc done) second olds mids begun
      stands_noted = half_noted core run log steps Mid (suc done) first olds ports begun stands_mid lines_mid mid_are mids made_mid

      stands_end : StandsAt core steps End (suc done) second olds mids ended
      stands_end = half_ended core steps done second olds mids begun ended stands_noted (core_ended ∙ its_core) queues_ended next_end

      end_are : lines_end ≡ block_at core (moment_of ended)
      end_are = ap (λ c. block_at c (next_half c (moment_of begun))) its_core ∙ ap (block_at core) (sym next_end)

      pub end_failed : Fails never [] (lines_to log lines_end) mids news → FailsToRecord core log steps olds news
      end_failed fails = half_failed core run log steps End (suc done) second olds mids ended stands_end lines_end end_are news fails
          (λ inputs can. third_first so_far.is inputs (stands_end.unblocked inputs can))

      pub end_noted : Made (lines_to log lines_end) [] mids news → HasRecorded core log steps (suc done) olds news ended
      end_noted made =
          restated core steps End (suc done) third olds news ended
          (half_noted core run log steps End (suc done) second olds mids ended stands_end lines_end end_are news made)
          (recorded core log steps (suc done)) refl (λ inputs can. third_is inputs.good) (λ inputs can. refl)

-- the block of the moment that a half has led to
pub lines_as : (core other : Core) (moment next : Moment) (at : ℕ) (olds news : List PortView) (result : Result (Unit {0}) Failed) → other ≡ core → moment ≡ next
    → EndsLines at (block_at other moment) olds news result → EndsLines at (block_at core next) olds news result
lines_as core other moment next at olds news result same is ends =
    subst (λ m. EndsLines at (block_at core m) olds news result) is (subst (λ c. EndsLines at (block_at c moment) olds news result) same ends)

-- a result that is known
pub ends_known : (log : List ℕ) (lines : List (List ℕ)) (at : ℕ) (olds news : List PortView) (result other : Result (Unit {0}) Failed) → result ≡ other
    → place_of log (names olds) ≡ Some at → EndsLines at lines olds news result → Ends never [] (lines_to log lines) [] olds news other
ends_known log lines at olds news result other same place ends = subst (λ r. Ends never [] (lines_to log lines) [] olds news r) same (ends log place)

-- what was done with the streams before a superstep, by how that ended

pub first_fill : (core : Core) (steps done : ℕ) (deeds : Deeds) (olds news : List PortView) (logs : LogRun) → done < steps
    → StandsAt core steps End done deeds olds news logs → StandsFilling core steps done 0 deeds olds news logs
first_fill core steps done deeds olds news logs less stands = record {
  is = less;
  stands = restated core steps End done deeds olds news logs stands (filling core steps done 0 deeds) refl (λ inputs can. sym (append-nil (deeds.acts inputs.good))) (λ inputs can. refl);
  begun = λ n stream few. absurd (omega (arith, few));
}

pub fills_as : (core : Core) (steps done : ℕ) (deeds : Deeds) (olds news : List PortView) (logs : LogRun) (result other : Result (Option BadLine) Failed) → result ≡ other
    → EndsFills core steps done deeds olds news logs result → EndsFills core steps done deeds olds news logs other
fills_as core steps done deeds olds news logs result other same ends = subst (EndsFills core steps done deeds olds news logs) same ends
