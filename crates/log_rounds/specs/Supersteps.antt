-- How many supersteps of a run are logged. A round has one superstep, as in a trace.
use Rattle.std.specs.Prelude.{ℕ, ◌-◌, true, List, [], Option, None, Some}
use Rattle.hume_model.specs.declared.core_tree.Core.{Core}
use Rattle.port_acts.specs.Acts.{Act}
use Rattle.run_rounds.specs.Inputs.{Inputs}
use Rattle.run_rounds.specs.RunActs.{blocked_acts}
use Rattle.run_rounds.specs.Writes.{blocked_by, blocked_round}

-- the first superstep that a bad line blocks
abbrev pub blocked_superstep : Core → Inputs → ℕ → Option ℕ
blocked_superstep core inputs steps = blocked_round core inputs 1 steps

-- the supersteps before the first blocked one, or all if none is
abbrev pub before_blocked : ℕ → Option ℕ → ℕ
before_blocked steps None = steps
before_blocked steps (Some superstep) = superstep - 1

-- how many supersteps are made
abbrev pub supersteps_made : Core → Inputs → ℕ → ℕ
supersteps_made core inputs steps = before_blocked steps (blocked_superstep core inputs steps)

-- before a blocked superstep streams are read up to the one that blocks it, and its bad line is told
abbrev pub blocked_end : Core → Inputs → ℕ → Option ℕ → List Act
blocked_end core inputs steps None = []
blocked_end core inputs steps (Some superstep) = blocked_acts core inputs true steps superstep (blocked_by core inputs true steps superstep)
