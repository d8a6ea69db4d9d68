-- What is known of a source that was accepted.
use Rattle.std.specs.Prelude.{ℕ, List}
use Rattle.hume_front.specs.declared.acceptance.Accepted.{Accepted}
use Rattle.hume_front.specs.Accepted.{IsAccepted}

-- it was accepted of some source
pub record IsOfSource (accepted : Accepted) : Type 0 where
  pub text : List ℕ
  pub is : IsAccepted text accepted
