-- Calls that run the programs of a union alone.
use Rattle.std.specs.Prelude.{◌≡◌, ℕ, false, List, Some, slice_get}
use Rattle.hume_front.specs.declared.acceptance.Accepted.{Accepted}
use Rattle.run_rounds.specs.Inputs.{AreInputs, Inputs}
use Rattle.hume_calls.specs.declared.status.Status.TheVariants.{BadValue}
use Rattle.hume_calls.specs.Owed.{owed_run}

-- A run of one of the programs alone, of so many supersteps over these texts, is owed the answer BadValue.
pub record BlocksRun (programs : List Accepted) (texts : List ℕ → List ℕ) (steps : ℕ) : Type 0 where
  pub place : ℕ
  pub program : Accepted
  pub own : Inputs
  pub there : slice_get programs place ≡ Some program
  pub are : AreInputs program.core texts own
  pub blocked : (owed_run false steps program.core own).answer ≡ BadValue
