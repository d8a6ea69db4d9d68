-- What a call of a file's port does to the open file.
use Rattle.std.specs.Prelude.{◌≡◌, Option, Some}

-- The file that was open before, or one that the call opened, has gone on by this step, and is open.
pub record GoesOn {F : Type 0} (step : F → F → Type 0) (old new : Option F) : Type 0 where
  pub earlier : F
  pub later : F
  pub same : (opened : F) → old ≡ Some opened → earlier ≡ opened
  pub now_open : new ≡ Some later
  pub goes : step earlier later
