use Rattle.hume_base.proofs.Least.{IsLeast-either}
use Rattle.hume_exceptions.proofs.handlers.least_broken.Goals as goal

pub returns : goal.returns
returns c = rw c.earlier.ensures (IsLeast-either _ _ _ _ c.least_unhandled.ensures c.least_raised_again.ensures)
