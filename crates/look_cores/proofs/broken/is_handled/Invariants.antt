use Rattle.std.proofs.Common.{◌≡◌, drop}
use Rattle.hume_model.specs.HandlerRules.{has_handler}
use Rattle.look_cores.proofs.broken.is_handled.Given as goal

abbrev pub invariant-loop-handler : goal.invariant-loop-handler
invariant-loop-handler l = has_handler (drop l.handler-index l.handlers) l.exn ≡ has_handler l.handlers l.exn
