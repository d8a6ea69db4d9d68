-- Sets of exceptions, and when they are those that a core may raise.
use Rattle.std.specs.Prelude.{◌≡◌, ℕ, ◌<◌, ◌==◌, Bool, List, length, Option, Some, None, slice_get}
use Rattle.std.specs.Int.{bit_at}
use Rattle.hume_base.specs.declared.limits.TheConstants.{MAX_EXCEPTIONS}
use Rattle.hume_model.specs.declared.core_tree.Core.{Core}
use Rattle.hume_model.specs.declared.exceptions.TheConstants.{NO_CASE}
use Rattle.hume_model.specs.Raising.{raises_below}
use Rattle.hume_exceptions.specs.declared.exn_set.ExnSet.{ExnSet}

-- the exception is in the set
abbrev pub has : ExnSet → ℕ → Bool
has set exn = bit_at set.bits exn == 1

-- of the exceptions that a core may have, just those that pass the test are in the set
pub record IsSetOf (set : ExnSet) (test : ℕ → Bool) : Type 0 where
  pub each : (exn : ℕ) → exn < MAX_EXCEPTIONS → has set exn ≡ test exn

-- the exception is in the set of a function; where there is no function, there is no case
abbrev pub in_set : Option ExnSet → ℕ → Bool
in_set None exn = exn == NO_CASE
in_set (Some set) exn = has set exn

-- the same, by the number of the function
abbrev pub called_by : List ExnSet → ℕ → ℕ → Bool
called_by sets exn function = in_set (slice_get sets function) exn

-- the sets are those of the core's functions, in the order of their numbers
pub record IsRaisesOf (core : Core) (sets : List ExnSet) : Type 0 where
  pub count : length sets ≡ length core.funs
  pub each : (exn function : ℕ) → exn < MAX_EXCEPTIONS → called_by sets exn function ≡ raises_below core (length core.funs) exn function
