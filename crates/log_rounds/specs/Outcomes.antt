-- What comes of a log that is verified.
use Rattle.std.specs.Prelude.{◌≡◌, ◌≤◌, ℕ, zero, suc, ◌+◌, ◌-◌, ◌*◌, true, List, [], ◌∷◌, ◌++◌, length, None, Some}
use Rattle.std.specs.List.{concat}
use Rattle.hume_model.specs.declared.core_tree.Core.{Core}
use Rattle.hume_net.specs.declared.state.State.{State}
use Rattle.hume_net.specs.Lockstep.{lockstep, mid}
use Rattle.hume_net.specs.Start.{start}
use Rattle.run_log.specs.declared.fault.LogFault.{LogFault}
use Rattle.run_log.specs.declared.half.Half.{Half}
use Rattle.run_log.specs.declared.half.Half.TheVariants.{Mid, End}
use Rattle.run_log.specs.Faults.{IsFault}
use Rattle.run_log.specs.Logs.{block, log_lines, log_of}
use Rattle.run_log.specs.Moments.{Moment}
use Rattle.run_rounds.specs.Inputs.{Inputs}
use Rattle.run_rounds.specs.Writes.{blocked_by}
use Rattle.log_rounds.specs.Supersteps.{blocked_superstep, supersteps_made}
use Rattle.log_rounds.specs.declared.verdict.Verdict.{Verdict}
use Rattle.log_rounds.specs.declared.verdict.Verdict.TheVariants as verdict

-- a run at a half of a superstep; the start is the end of superstep 0
abbrev pub moment_at : Core → State → Half → ℕ → Moment
moment_at core first Mid superstep = record { half = Mid; superstep = superstep; state = mid core (lockstep core first (superstep - 1)) }
moment_at core first End superstep = record { half = End; superstep = superstep; state = lockstep core first superstep }

-- the lines of the log up to the block of a half of a superstep, with this block
abbrev pub lines_through : Core → State → Half → ℕ → List (List ℕ)
lines_through core first Mid superstep =
    log_lines core first (superstep - 1) ++ block core Mid superstep (mid core (lockstep core first (superstep - 1)))
lines_through core first End superstep = log_lines core first superstep

-- the lines before this block
abbrev pub lines_until : Core → State → Half → ℕ → List (List ℕ)
lines_until core first Mid superstep = log_lines core first (superstep - 1)
lines_until core first End zero = []
lines_until core first End (suc superstep) = lines_through core first Mid (suc superstep)

-- The log of so many supersteps has a block of this half of the superstep.
abbrev pub HasBlock : ℕ → Half → ℕ → Type 0
HasBlock made Mid superstep = (1 ≤ superstep) × (superstep ≤ made)
HasBlock made End superstep = superstep ≤ made

-- The text is the log of the run before the block of a half of a superstep that is made, and differs from that block in this way.
pub record FailsAt (core : Core) (inputs : Inputs) (steps : ℕ) (text : List ℕ) (half : Half) (superstep : ℕ) (fault : LogFault) : Type 0 where
  pub there : HasBlock (supersteps_made core inputs steps) half superstep
  pub rest : List ℕ
  pub agrees : text ≡ concat (lines_until core (start core inputs.good) half superstep) ++ rest
  pub is_fault : IsFault core (moment_at core (start core inputs.good) half superstep) rest fault

-- how many lines the log of so many supersteps has
abbrev pub line_count : Core → ℕ → ℕ
line_count core steps = (2 * steps + 1) * (length core.wires + 1)

-- a log that goes on behind its last line is wrong in the line after it, for which no node is blamed
abbrev pub surplus : Core → ℕ → LogFault
surplus core steps = record { line = line_count core steps + 1; node = None }

-- The log holds; or it is wrong in the block of a half of a superstep; or it goes on behind its last line; or a node's bad line blocks
-- a superstep.
pub data Outcome : Type 0 where
  holds : Outcome
  fails : (half : Half) (superstep : ℕ) (fault : LogFault) → Outcome
  goes_on : Outcome
  blocked : (superstep node : ℕ) → Outcome

-- Which of these comes of a text. It holds if it is the log of the run. A blocked superstep is told where the text is right up to there.
pub data IsOutcome (core : Core) (inputs : Inputs) (steps : ℕ) (text : List ℕ) : Outcome → Type 0 where
  is_held : blocked_superstep core inputs steps ≡ None → text ≡ log_of core inputs.good steps → IsOutcome core inputs steps text holds
  is_wrong : (half : Half) (superstep : ℕ) (fault : LogFault) → FailsAt core inputs steps text half superstep fault
      → IsOutcome core inputs steps text (fails half superstep fault)
  is_longer : blocked_superstep core inputs steps ≡ None → (byte : ℕ) (rest : List ℕ) → text ≡ log_of core inputs.good steps ++ byte ∷ rest
      → IsOutcome core inputs steps text goes_on
  is_blocked : (superstep node : ℕ) → blocked_superstep core inputs steps ≡ Some superstep → blocked_by core inputs true steps superstep ≡ Some node
      → (rest : List ℕ) → text ≡ log_of core inputs.good (superstep - 1) ++ rest → IsOutcome core inputs steps text (blocked superstep node)

-- what is answered
abbrev pub verdict_of : Outcome → Verdict
verdict_of holds = verdict.Holds
verdict_of (fails half superstep fault) = verdict.Fails
verdict_of goes_on = verdict.Fails
verdict_of (blocked superstep node) = verdict.Blocked
