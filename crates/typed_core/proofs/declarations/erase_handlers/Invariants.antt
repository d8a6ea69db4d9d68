use Rattle.std.proofs.Common.{◌≡◌, take, map}
use Rattle.typed_core.specs.Erasing.{erased_handler}
use Rattle.typed_core.proofs.declarations.erase_handlers.Given as goal

abbrev pub invariant-loop-handler : goal.invariant-loop-handler
invariant-loop-handler l = l.core ≡ map erased_handler (take l.handler-index l.handlers)
