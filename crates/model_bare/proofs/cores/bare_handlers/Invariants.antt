use Rattle.std.proofs.Common.{◌≡◌, take, map}
use Rattle.model_bare.specs.Bare.{bare_handler}
use Rattle.model_bare.proofs.cores.bare_handlers.Given as goal

abbrev pub invariant-loop-handler : goal.invariant-loop-handler
invariant-loop-handler l = l.copies ≡ map bare_handler (take l.handler-index l.handlers)
