use Rattle.hume_front.proofs.printable_lemmas.NamedConstructors.{have_names}
use Rattle.hume_front.proofs.printable.laws.constructors_of_sources_have_names.Goals as goal

pub returns : goal.returns
returns c = λ text tokens program core read stands fine p. have_names text tokens program core read stands fine p
