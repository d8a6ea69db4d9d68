-- What becomes of the bound of a box in which a call is unfolded.
use Rattle.std.specs.Prelude.{ℕ, ◌+◌, ◌≤◌}
use Rattle.hume_base.specs.declared.limits.TheConstants.{MAX_PARAMETERS}
use Rattle.box_costs.specs.declared.cost.Cost.{Cost}

-- Neither heap nor stack is greater than before. A `let` ends with an instruction of its own, so work may be greater by one
-- for each argument that the function doesn't look at.
pub record IsUnfoldedBound (new old : Cost) : Type 0 where
  pub heap : new.heap ≤ old.heap
  pub stack : new.stack ≤ old.stack
  pub work : new.work ≤ old.work + MAX_PARAMETERS
