use Rattle.std.proofs.Common.{◌≡◌, [], false, drop}
use Rattle.check_declarations.specs.boxes.inner.Rules.{together}
use Rattle.check_declarations.specs.boxes.inner.Handlers.{handlers_at}
use Rattle.check_declarations.proofs.boxes.handlers.handler_cores.Given as goal

-- the cores so far and those of what is left are those of all
abbrev pub invariant-loop-handler : goal.invariant-loop-handler
invariant-loop-handler l = record {
  state : l.at ≡ l.fn.at;
  so_far : together (l.cores, l.some_too_wide) (handlers_at l.fn.at (drop l.handler-index l.handlers)) ≡ together ([], false) (handlers_at l.fn.at l.handlers);
}
