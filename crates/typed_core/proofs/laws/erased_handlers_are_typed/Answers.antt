use Rattle.typed_core.proofs.TypedResults.{handler_typed}
use Rattle.typed_core.proofs.laws.erased_handlers_are_typed.Goals as goal

pub returns : goal.returns
returns c = handler_typed
