use Rattle.calculus_laws.proofs.UnfoldedBoxes.{unfolds_less}
use Rattle.calculus_laws.proofs.laws.unfolds_raise_no_heap_or_stack.Goals as goal

pub returns : goal.returns
returns c = unfolds_less
