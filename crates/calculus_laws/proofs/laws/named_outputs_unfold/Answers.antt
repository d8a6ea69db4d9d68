use Rattle.calculus_laws.proofs.NamedUnfolds.{named_unfolds}
use Rattle.calculus_laws.proofs.laws.named_outputs_unfold.Goals as goal

pub returns : goal.returns
returns c = λ core node rule name b output at. named_unfolds core node rule name b output at
