use Rattle.typed_core.proofs.TypedResults.{gives_outputs}
use Rattle.typed_core.proofs.laws.erased_results_give_their_outputs.Goals as goal

pub returns : goal.returns
returns c = λ core tys vars r typed. gives_outputs core tys typed
