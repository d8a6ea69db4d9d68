use Rattle.hume_front.proofs.printable_lemmas.Printable.{printable}
use Rattle.hume_front.proofs.printable.laws.well_formed_types_are_printable.Goals as goal

pub returns : goal.returns
returns c = λ core formed w wire there. printable core formed w wire there
