use Rattle.std.proofs.Common.{◌≡◌, ◌++◌, map, drop}
use Rattle.check_names.proofs.declared.push_handled.Given as goal

abbrev pub invariant-loop-handler : goal.invariant-loop-handler
invariant-loop-handler l = l.names ++ map (λ handler. handler.0) (drop l.handler-index l.handlers) ≡ l.fn.names ++ map (λ handler. handler.0) l.handlers
