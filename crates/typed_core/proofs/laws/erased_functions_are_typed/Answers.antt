use Rattle.std.proofs.Common.{subst}
use Rattle.hume_model.specs.Typing.{EquationsHave}
use Rattle.typed_core.proofs.Typed.{equations_have}
use Rattle.typed_core.proofs.laws.erased_functions_are_typed.Goals as goal

pub returns : goal.returns
returns c = λ core function equations are. subst (λ es. EquationsHave core function es) are.erases (equations_have core function equations are.typed)
