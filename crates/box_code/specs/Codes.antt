-- What a code has.
use Rattle.std.specs.Prelude.{ℕ, List}

-- its words, and for how many there is room
pub record CodeView : Type 0 where
  pub words : List ℕ
  pub room : ℕ
