use Rattle.std.proofs.Common.{sym, ◌∙◌}
use Rattle.hume_console.proofs.Placing.{own_taken, others_taken}
use Rattle.hume_console.proofs.places.Places.is_taken.Goals as goal

pub returns-then-is_own : goal.returns-then-is_own
returns-then-is_own c = λ source session names port placed e.
    own_taken _ source session names _ port _ (sym c.is_own.ensures ∙ c.if-is_own.true) placed e

pub returns : goal.returns
returns c = λ source session names port placed e.
    others_taken _ source session names _ port _ _ (sym c.is_own.ensures ∙ c.if-is_own.false) c.is_of_stream.ensures placed e
