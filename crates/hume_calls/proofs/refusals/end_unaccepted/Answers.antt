use Rattle.std.proofs.Common.{subst, inl, inr, refl}
use Rattle.hume_front.specs.Accepted.{IsUnaccepted}
use Rattle.hume_calls.proofs.refusals.end_unaccepted.Goals as goal

pub returns-in-Refused : goal.returns-in-Refused
returns-in-Refused g c text unaccepted = inr (c.in-Refused.refusal, subst (IsUnaccepted text) c.in-Refused.is unaccepted, c.refuse.ensures)

pub returns-in-NoMemory : goal.returns-in-NoMemory
returns-in-NoMemory g c text unaccepted = inl (refl, refl)
