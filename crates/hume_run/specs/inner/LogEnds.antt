-- How a run ends that is logged, once its core is accepted.
use Rattle.std.specs.Prelude.{◌≡◌, ℕ, Bool, true, false, List, [], IfOk, Result}
use Rattle.std.specs.Option.{is_some}
use Rattle.hume_model.specs.declared.core_tree.Core.{Core}
use Rattle.hume_ports.specs.declared.port.Failed.{Failed}
use Rattle.hume_ports.specs.Port.{PortView}
use Rattle.hume_ports.specs.Delivery.{Pairs}
use Rattle.port_acts.specs.Ends.{Ends}
use Rattle.run_rounds.specs.RunActs.{run_few}
use Rattle.run_rounds.specs.Runs.{Comes}
use Rattle.log_rounds.specs.declared.verdict.Verdict.{Verdict}
use Rattle.log_rounds.specs.Supersteps.{blocked_superstep}
use Rattle.log_rounds.specs.Outcomes.{Outcome, IsOutcome, verdict_of}
use Rattle.log_rounds.specs.VerifyActs.{verify_few}
use Rattle.hume_calls.specs.declared.status.Status.{Status}
use Rattle.hume_calls.specs.Owed.{owed_record, owed_verify}
use Rattle.hume_calls.specs.Ended.{EndsAfter}

-- The acts of the recorded run were made or one of them failed.
pub record RecordEnds (log : List ℕ) (steps : ℕ) (core : Core) (old new : List PortView) (result : Result Bool Failed) : Type 0 where
  pub comes : Comes core old
  pub taken : Pairs
  pub ends : Ends (run_few core) [] (owed_record steps core comes.inputs log).acts taken old new result
  pub blocked : IfOk result (λ blocked. blocked ≡ is_some (blocked_superstep core comes.inputs steps))

-- The acts by which the log is verified were made or one of them failed.
pub record VerifyEnds (log : List ℕ) (steps : ℕ) (core : Core) (old new : List PortView) (result : Result Verdict Failed) : Type 0 where
  pub comes : Comes core old
  pub outcome : Outcome
  pub is : IsOutcome core comes.inputs steps (comes.texts log) outcome
  pub taken : Pairs
  pub ends : Ends (verify_few core log) [] (owed_verify steps core comes.inputs log outcome).acts taken old new result
  pub answer : IfOk result (λ verdict. verdict ≡ verdict_of outcome)

-- The call ends as one that owes the recorded run of what comes from its ports.
pub record Records (log : List ℕ) (steps : ℕ) (core : Core) (old new : List PortView) (status : Status) : Type 0 where
  pub comes : Comes core old
  pub ends : EndsAfter (run_few core) [] (owed_record steps core comes.inputs log) old new status

-- The call ends as one that owes what comes of the log.
pub record Verifies (log : List ℕ) (steps : ℕ) (core : Core) (old new : List PortView) (status : Status) : Type 0 where
  pub comes : Comes core old
  pub outcome : Outcome
  pub is : IsOutcome core comes.inputs steps (comes.texts log) outcome
  pub ends : EndsAfter (verify_few core log) [] (owed_verify steps core comes.inputs log outcome) old new status

-- So it ends, by whether the log is compared.
abbrev pub EndsLogged : Bool → List ℕ → ℕ → Core → List PortView → List PortView → Status → Type 0
EndsLogged false log steps core old new status = Records log steps core old new status
EndsLogged true log steps core old new status = Verifies log steps core old new status
