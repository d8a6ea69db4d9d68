-- What is told of a broken rule.
use Rattle.std.specs.Prelude.{◌≡◌}
use Rattle.look_reasons.specs.declared.reason.Reason.{Reason}

-- nothing but the remedy may be another one
pub record OnlyRemedyDiffers (before after : Reason) : Type 0 where
  pub head : after.head ≡ before.head
  pub here : after.here ≡ before.here
  pub note : after.note ≡ before.note
