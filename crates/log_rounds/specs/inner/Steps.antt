-- How the parts of a logged run end: its fills, its supersteps, and the comparison with a log.
use Rattle.std.specs.Prelude.{◌≡◌, ⊤, ℕ, suc, ◌+◌, ◌<◌, ◌≤◌, true, false, List, [], ◌++◌, length, Option, None, Some, slice_get, Result, Ok, Err}
use Rattle.std.specs.List.{concat}
use Rattle.hume_base.specs.declared.types.Value.{Value}
use Rattle.hume_model.specs.declared.core_tree.NodeC.TheVariants.{From}
use Rattle.hume_model.specs.declared.core_tree.StreamC.{StreamC}
use Rattle.hume_model.specs.declared.core_tree.Core.{Core}
use Rattle.hume_net.specs.Start.{start}
use Rattle.hume_net.specs.rounds.Blocked.{blocks}
use Rattle.hume_ports.specs.declared.port.Failed.{Failed}
use Rattle.hume_ports.specs.Port.{PortView}
use Rattle.hume_ports.specs.Delivery.{Pairs}
use Rattle.port_acts.specs.Ends.{Made, Fails}
use Rattle.phase_workers.specs.Engines.{queue_at}
use Rattle.run_log.specs.declared.half.Half.TheVariants.{End}
use Rattle.run_log.specs.declared.log_run.LogRun.{LogRun}
use Rattle.run_log.specs.Moments.{engine_of, moment_of}
use Rattle.run_rounds.specs.declared.bad_line.BadLine.{BadLine}
use Rattle.run_rounds.specs.Inputs.{Inputs, is_bad}
use Rattle.run_rounds.specs.RunActs.{round_wants, run_few}
use Rattle.run_rounds.specs.Runs.{Comes}
use Rattle.run_rounds.specs.Writes.{blocked_by}
use Rattle.run_rounds.specs.inner.Beginning.{MayBegin}
use Rattle.run_rounds.specs.inner.Steps.{LacksAt}
use Rattle.log_rounds.specs.declared.verifying.Stop.{Stop}
use Rattle.log_rounds.specs.declared.verifying.Stop.TheVariants.{Wrong, Bad}
use Rattle.log_rounds.specs.RecordActs.{logged_acts}
use Rattle.log_rounds.specs.Outcomes as found
use Rattle.log_rounds.specs.Opened.{IsApart}
use Rattle.log_rounds.specs.Outcomes.{Outcome, IsOutcome, lines_through, surplus}
use Rattle.log_rounds.specs.VerifyActs.{agreeing_acts, verify_few, verify_reads}
use Rattle.log_rounds.specs.Ended.{FailsToRecord}
use Rattle.log_rounds.specs.inner.Standing.{Deeds, StandsAt}

-- what was done so far, and the reads of the first nodes before the next superstep
abbrev pub filling : Core → ℕ → ℕ → ℕ → Deeds → Deeds
filling core steps done count deeds = record deeds { acts = λ good. deeds.acts good ++ round_wants core good 1 steps (suc done) count }

-- After a superstep the input streams among the first nodes were read, and have brought what the next superstep may need.
pub record StandsFilling (core : Core) (steps done count : ℕ) (deeds : Deeds) (olds news : List PortView) (run : LogRun) : Type 0 where
  pub is : done < steps
  pub stands : StandsAt core steps End done (filling core steps done count deeds) olds news run
  pub begun : (n : ℕ) (stream : StreamC) → n < count → slice_get core.nodes n ≡ Some (From stream)
      → MayBegin core (queue_at (engine_of run)) 1 (moment_of run).state n

-- The next superstep may not begin: a stream lacks its value, and no earlier one does.
pub record StandsBlocked (core : Core) (steps done : ℕ) (deeds : Deeds) (olds news : List PortView) (run : LogRun) (bad : BadLine) : Type 0 where
  pub is : done < steps
  pub stands : StandsAt core steps End done (filling core steps done (bad.node + 1) deeds) olds news run
  pub begun : (n : ℕ) (stream : StreamC) → n < bad.node → slice_get core.nodes n ≡ Some (From stream)
      → MayBegin core (queue_at (engine_of run)) 1 (moment_of run).state n
  pub lacks : LacksAt core 1 (engine_of run) bad.node bad.line

-- The text goes on as the log was read.
abbrev pub GoesOn : Core → Deeds → List (List Value) → List ℕ → Type 0
GoesOn core deeds good text = IsApart core deeds.log → (rest : List ℕ) × (text ≡ deeds.bytes good ++ rest)

-- A read before the next superstep failed, when too few values of its stream had come. No superstep so far was blocked, and no earlier
-- stream blocks the next one.
pub record FailsFilling (core : Core) (steps done : ℕ) (deeds : Deeds) (olds news : List PortView) : Type 0 where
  pub is : done < steps
  pub comes : Comes core olds
  pub text : GoesOn core deeds comes.inputs.good (comes.texts deeds.log)
  pub unblocked : (superstep : ℕ) → 1 ≤ superstep → superstep ≤ done → blocked_by core comes.inputs true steps superstep ≡ None
  pub node : ℕ
  pub within : node < length core.nodes
  pub begun : (n : ℕ) → n < node → blocks core comes.inputs.good (is_bad comes.inputs) 1 steps (suc done) n ≡ false
  pub fails : Fails (run_few core) [] ((filling core steps done (node + 1) deeds).acts comes.inputs.good) olds news
  -- where no stream names the log's port it wasn't the log's
  pub apart : IsApart core deeds.log → Fails (verify_few core deeds.log) [] ((filling core steps done (node + 1) deeds).acts comes.inputs.good) olds news

abbrev pub EndsNode : Core → ℕ → ℕ → ℕ → Deeds → List PortView → List PortView → LogRun → Result (Option ℕ) Failed → Type 0
EndsNode core steps done node deeds olds news run (Ok None) = StandsFilling core steps done (node + 1) deeds olds news run
EndsNode core steps done node deeds olds news run (Ok (Some line)) =
    StandsBlocked core steps done deeds olds news run (record { node = node; line = line })
EndsNode core steps done node deeds olds news run (Err failed) = FailsFilling core steps done deeds olds news

abbrev pub EndsFills : Core → ℕ → ℕ → Deeds → List PortView → List PortView → LogRun → Result (Option BadLine) Failed → Type 0
EndsFills core steps done deeds olds news run (Ok None) = StandsFilling core steps done (length core.nodes) deeds olds news run
EndsFills core steps done deeds olds news run (Ok (Some bad)) = StandsBlocked core steps done deeds olds news run bad
EndsFills core steps done deeds olds news run (Err failed) = FailsFilling core steps done deeds olds news

-- Where nothing stops it a superstep of the run is made.
abbrev pub IsNext : {T : Type 0} → LogRun → LogRun → Result (Option T) Failed → Type 0
IsNext old new (Ok None) = ((moment_of new).half ≡ End) × ((moment_of new).superstep ≡ (moment_of old).superstep + 1)
IsNext old new _ = ⊤

-- a recorded run

-- The start and the first supersteps were written.
abbrev pub recorded : Core → List ℕ → ℕ → ℕ → Deeds
recorded core log steps done = record { log = log; bytes = λ good. []; acts = λ good. logged_acts core good log steps done }

abbrev pub HasRecorded : Core → List ℕ → ℕ → ℕ → List PortView → List PortView → LogRun → Type 0
HasRecorded core log steps done olds news run = StandsAt core steps End done (recorded core log steps done) olds news run

-- The superstep after some that were written can't begin for a bad line.
pub record HaltsRecord (core : Core) (log : List ℕ) (steps : ℕ) (olds news : List PortView) (run : LogRun) (bad : BadLine) : Type 0 where
  pub done : ℕ
  pub blocked : StandsBlocked core steps done (recorded core log steps done) olds news run bad

abbrev pub EndsSuperstep : Core → List ℕ → ℕ → ℕ → List PortView → List PortView → LogRun → Result (Option BadLine) Failed → Type 0
EndsSuperstep core log steps done olds news run (Ok None) = HasRecorded core log steps (suc done) olds news run
EndsSuperstep core log steps done olds news run (Ok (Some bad)) = HaltsRecord core log steps olds news run bad
EndsSuperstep core log steps done olds news run (Err failed) = FailsToRecord core log steps olds news

abbrev pub EndsSupersteps : Core → List ℕ → ℕ → List PortView → List PortView → LogRun → Result (Option BadLine) Failed → Type 0
EndsSupersteps core log steps olds news run (Ok None) = HasRecorded core log steps steps olds news run
EndsSupersteps core log steps olds news run (Ok (Some bad)) = HaltsRecord core log steps olds news run bad
EndsSupersteps core log steps olds news run (Err failed) = FailsToRecord core log steps olds news

-- a run by which a log is verified

-- The log agrees through the first supersteps.
abbrev pub verified : Core → List ℕ → ℕ → ℕ → Deeds
verified core log steps done = record {
  log = log;
  bytes = λ good. concat (lines_through core (start core good) End done);
  acts = λ good. agreeing_acts core good log steps done;
}

abbrev pub HasVerified : Core → List ℕ → ℕ → ℕ → List PortView → List PortView → LogRun → Type 0
HasVerified core log steps done olds news run = StandsAt core steps End done (verified core log steps done) olds news run

-- why verifying stopped, by what comes of the log
abbrev pub IsStopOf : Core → Inputs → ℕ → Outcome → Option Stop → Type 0
IsStopOf core inputs steps found.holds stop = stop ≡ None
IsStopOf core inputs steps (found.fails half superstep fault) stop = stop ≡ Some (Wrong fault)
IsStopOf core inputs steps found.goes_on stop = stop ≡ Some (Wrong (surplus core steps))
IsStopOf core inputs steps (found.blocked superstep node) stop =
    (line : ℕ) × (inputs.bad node ≡ Some line) × (stop ≡ Some (Bad (record { node = node; line = line })))

-- It is known what comes of the log, and all is read that is read for it.
pub record Judges (core : Core) (log : List ℕ) (steps : ℕ) (olds news : List PortView) (stop : Option Stop) : Type 0 where
  pub comes : Comes core olds
  pub outcome : Outcome
  pub is : IsOutcome core comes.inputs steps (comes.texts log) outcome
  pub taken : Pairs
  pub made : Made (verify_reads core comes.inputs log steps outcome) taken olds news
  pub stops : IsStopOf core comes.inputs steps outcome stop

-- A read for it failed.
pub record FailsToJudge (core : Core) (log : List ℕ) (steps : ℕ) (olds news : List PortView) : Type 0 where
  pub comes : Comes core olds
  pub outcome : Outcome
  pub is : IsOutcome core comes.inputs steps (comes.texts log) outcome
  pub fails : Fails (verify_few core log) [] (verify_reads core comes.inputs log steps outcome) olds news

abbrev pub EndsJudging : Core → List ℕ → ℕ → List PortView → List PortView → Result (Option Stop) Failed → Type 0
EndsJudging core log steps olds news (Ok stop) = Judges core log steps olds news stop
EndsJudging core log steps olds news (Err failed) = FailsToJudge core log steps olds news

-- So far all agrees, after so many supersteps; or it is known what comes of the log.
abbrev pub EndsAgreeing : Core → List ℕ → ℕ → ℕ → List PortView → List PortView → LogRun → Result (Option Stop) Failed → Type 0
EndsAgreeing core log steps done olds news run (Ok None) = HasVerified core log steps done olds news run
EndsAgreeing core log steps done olds news run (Ok (Some stop)) = Judges core log steps olds news (Some stop)
EndsAgreeing core log steps done olds news run (Err failed) = FailsToJudge core log steps olds news
