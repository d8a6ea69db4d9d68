use Rattle.typed_core.proofs.Typed.{has_type}
use Rattle.typed_core.proofs.laws.erased_expressions_have_their_types.Goals as goal

pub returns : goal.returns
returns c = λ core vars e ty typed. has_type core typed
