-- Putting together what may be missing.
use Rattle.std.specs.Prelude.{Bool, Option, Some, None, if◌then◌else◌}

-- nothing where the first part is missing
abbrev pub given : {A B : Type 0} → Option A → (A → Option B) → Option B
given None f = None
given (Some x) f = f x

-- nothing where the test fails
abbrev pub when : {A : Type 0} → Bool → Option A → Option A
when test o = if test then o else None
