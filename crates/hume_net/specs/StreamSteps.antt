-- What streams take and assert between two states.
use Rattle.std.specs.Prelude.{◌≡◌, ◌≤◌, ℕ, List, ◌++◌, length}
use Rattle.hume_base.specs.declared.types.Value.{Value}

-- a list of values has grown by at most so many, behind those that it had
pub record HasGrown (most : ℕ) (before after : List Value) : Type 0 where
  pub more : List Value
  pub is : after ≡ before ++ more
  pub few : length more ≤ most

-- at most so many values are gone from the front of a list, and the others are left
pub record HasShrunk (most : ℕ) (before after : List Value) : Type 0 where
  pub gone : List Value
  pub is : before ≡ gone ++ after
  pub few : length gone ≤ most
