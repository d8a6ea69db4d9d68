-- The rounds of a run of so many supersteps, counted from 1. Each has as many supersteps as the span, and the last has what
-- is left of the run.
use Rattle.std.specs.Prelude.{ℕ, ◌+◌, ◌-◌, ◌*◌, ◌≤◌, ◌<◌, min}
use Rattle.std.specs.Int.{div_ceil}

-- how many supersteps are made before a round
abbrev pub begins : ℕ → ℕ → ℕ
begins span round = (round - 1) * span

-- how many supersteps a round has
abbrev pub length_of : ℕ → ℕ → ℕ → ℕ
length_of span steps round = min span (steps - begins span round)

-- how many supersteps are made when a round is over
abbrev pub ends : ℕ → ℕ → ℕ → ℕ
ends span steps round = begins span round + length_of span steps round

-- a run has the rounds that begin before all its supersteps are made
pub record IsRound (span steps round : ℕ) : Type 0 where
  pub counted : 1 ≤ round
  pub begins_within : begins span round < steps

-- and so many are these
abbrev pub rounds_of : ℕ → ℕ → ℕ
rounds_of span steps = div_ceil steps span

-- how many supersteps are made after so many rounds
abbrev pub made : ℕ → ℕ → ℕ → ℕ
made span steps rounds = min (rounds * span) steps
