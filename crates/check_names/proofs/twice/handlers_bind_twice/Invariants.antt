use Rattle.std.proofs.Common.{◌≡◌, drop}
use Rattle.std.specs.List.{list_any}
use Rattle.check_names.specs.Twice.{exp_binds_twice}
use Rattle.check_names.proofs.twice.handlers_bind_twice.Given as goal

abbrev pub invariant-loop-handler : goal.invariant-loop-handler
invariant-loop-handler l = list_any (λ handler. exp_binds_twice handler.2) (drop l.handler-index l.handlers) ≡ list_any (λ handler. exp_binds_twice handler.2) l.handlers
