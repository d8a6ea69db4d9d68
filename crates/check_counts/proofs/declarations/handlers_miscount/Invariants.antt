use Rattle.std.proofs.Common.{◌≡◌, drop}
use Rattle.std.specs.List.{list_any}
use Rattle.check_counts.specs.CountRules.{handler_miscounts}
use Rattle.check_counts.proofs.declarations.handlers_miscount.Given as goal

abbrev pub invariant-loop-handler : goal.invariant-loop-handler
invariant-loop-handler l = list_any (handler_miscounts l.counts l.outputs) (drop l.handler-index l.handlers) ≡ list_any (handler_miscounts l.counts l.outputs) l.handlers
