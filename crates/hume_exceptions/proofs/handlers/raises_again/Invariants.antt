use Rattle.std.proofs.Common.{◌<◌}
use Rattle.hume_model.specs.HandlerRules.{RaisesAgain}
use Rattle.hume_exceptions.proofs.handlers.raises_again.Given as goal

abbrev pub invariant-loop-number : goal.invariant-loop-number
invariant-loop-number l = (broken : RaisesAgain l.core l.b) → broken.number < l.number → ⊥
