-- What the half steps of a net go by.
use Rattle.std.specs.Prelude.{◌+◌, IfSome}
use Rattle.hume_base.specs.declared.limits.TheConstants.{MAX_INPUTS, MAX_OUTPUTS}
use Rattle.hume_model.specs.declared.core_tree.Core.{Core}
use Rattle.hume_net.specs.Plan.{plan_of}
use Rattle.step_turns.specs.Rounds.{AreSides}
use Rattle.turn_workers.specs.Divisions.{IsDivision}
use Rattle.phase_workers.specs.declared.paths.Paths.{Paths}

-- The sides are those of the core's nodes. A division is one of its plan.
pub record ArePaths (core : Core) (paths : Paths) : Type 0 where
  pub sides_are : AreSides core (MAX_INPUTS + MAX_OUTPUTS) paths.sides
  pub divided : IfSome paths.division (λ division. IsDivision (plan_of core) division)
