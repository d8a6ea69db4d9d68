use Rattle.std.proofs.Common.{◌<◌}
use Rattle.hume_model.specs.HandlerRules.{LeavesUnhandled}
use Rattle.hume_exceptions.proofs.handlers.leaves_unhandled.Given as goal

abbrev pub invariant-loop-number : goal.invariant-loop-number
invariant-loop-number l = (broken : LeavesUnhandled l.core l.b) → broken.number < l.number → ⊥
