-- How a run ended that was recorded, or by which a log was verified.
use Rattle.std.specs.Prelude.{◌≡◌, ℕ, Bool, List, [], Result, Ok, Err}
use Rattle.std.specs.Option.{is_some}
use Rattle.hume_model.specs.declared.core_tree.Core.{Core}
use Rattle.hume_ports.specs.declared.port.Failed.{Failed}
use Rattle.hume_ports.specs.Port.{PortView}
use Rattle.hume_ports.specs.Delivery.{Pairs}
use Rattle.port_acts.specs.Ends.{Made, Fails}
use Rattle.run_rounds.specs.RunActs.{run_few}
use Rattle.run_rounds.specs.Runs.{Comes}
use Rattle.log_rounds.specs.Supersteps.{blocked_superstep}
use Rattle.log_rounds.specs.RecordActs.{record_acts}
use Rattle.log_rounds.specs.Outcomes.{Outcome, IsOutcome, verdict_of}
use Rattle.log_rounds.specs.VerifyActs.{verify_acts, verify_few}
use Rattle.log_rounds.specs.declared.verdict.Verdict.{Verdict}

-- The run has made all acts that the texts of the ports owe, and is blocked where they block it.
pub record Records (core : Core) (log : List ℕ) (steps : ℕ) (olds news : List PortView) (is_blocked : Bool) : Type 0 where
  pub comes : Comes core olds
  pub taken : Pairs
  pub made : Made (record_acts core comes.inputs log steps) taken olds news
  pub blocks : is_blocked ≡ is_some (blocked_superstep core comes.inputs steps)

-- One of these acts has failed.
pub record FailsToRecord (core : Core) (log : List ℕ) (steps : ℕ) (olds news : List PortView) : Type 0 where
  pub comes : Comes core olds
  pub fails : Fails (run_few core) [] (record_acts core comes.inputs log steps) olds news

abbrev pub EndsRecord : Core → List ℕ → ℕ → List PortView → List PortView → Result Bool Failed → Type 0
EndsRecord core log steps olds news (Ok is_blocked) = Records core log steps olds news is_blocked
EndsRecord core log steps olds news (Err failed) = FailsToRecord core log steps olds news

-- This comes of the log's text, and the run has made the acts of it.
pub record Verifies (core : Core) (log : List ℕ) (steps : ℕ) (olds news : List PortView) (verdict : Verdict) : Type 0 where
  pub comes : Comes core olds
  pub outcome : Outcome
  pub is : IsOutcome core comes.inputs steps (comes.texts log) outcome
  pub taken : Pairs
  pub made : Made (verify_acts core comes.inputs log steps outcome) taken olds news
  pub answer : verdict ≡ verdict_of outcome

-- One of these acts has failed.
pub record FailsToVerify (core : Core) (log : List ℕ) (steps : ℕ) (olds news : List PortView) : Type 0 where
  pub comes : Comes core olds
  pub outcome : Outcome
  pub is : IsOutcome core comes.inputs steps (comes.texts log) outcome
  pub fails : Fails (verify_few core log) [] (verify_acts core comes.inputs log steps outcome) olds news

abbrev pub EndsVerify : Core → List ℕ → ℕ → List PortView → List PortView → Result Verdict Failed → Type 0
EndsVerify core log steps olds news (Ok verdict) = Verifies core log steps olds news verdict
EndsVerify core log steps olds news (Err failed) = FailsToVerify core log steps olds news
