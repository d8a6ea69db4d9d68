use Rattle.std.proofs.Common.{subst, inl, inr, refl}
use Rattle.hume_front.specs.Accepted.{IsUnsound}
use Rattle.hume_run.proofs.calc.refusals.end_unsound.Goals as goal

pub returns-in-Refused : goal.returns-in-Refused
returns-in-Refused g c text unsound = inr (c.in-Refused.refusal, subst (IsUnsound text) c.in-Refused.is unsound, c.refuse.ensures)

pub returns-in-NoMemory : goal.returns-in-NoMemory
returns-in-NoMemory g c text unsound = inl (refl, refl)
