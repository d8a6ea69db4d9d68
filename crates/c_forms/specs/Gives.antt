-- Parts that are made: an option without a value says that memory ran out.
use Rattle.std.specs.Prelude.{◌≡◌, Option, IfSome}

-- the value that was made, if memory was enough
abbrev pub Gives : {A : Type 0} → Option A → A → Type 0
Gives option value = IfSome option (λ it. it ≡ value)
