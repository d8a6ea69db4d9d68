-- The ports of a call of which some leave on the way.
use Rattle.std.specs.Prelude.{◌≡◌, ℕ, ◌-◌, List, [], ◌∷◌, ◌++◌, Some, if◌then◌else◌, nat_lt, slice_get}
use Rattle.std.specs.List.{remove}
use Rattle.hume_ports.specs.Port.{PortView}

-- The ports that are there, and those that have left.
pub record Hands : Type 0 where
  pub ports : List PortView
  pub gone : List PortView

-- The port at that place has gone to the end of the gone ones; all others have stayed, as they were and in their order.
pub record Leaves (at : ℕ) (old new : Hands) : Type 0 where
  pub port : PortView
  pub was : slice_get old.ports at ≡ Some port
  pub others : new.ports ≡ remove old.ports at
  pub gone : new.gone ≡ old.gone ++ port ∷ []

-- the place of a port once the one at `gone` has left
abbrev pub place_without : ℕ → ℕ → ℕ
place_without gone at = if nat_lt gone at then at - 1 else at
