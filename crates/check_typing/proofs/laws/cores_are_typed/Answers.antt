use Rattle.std.proofs.Common.{false, refl}
use Rattle.check_typing.proofs.ExpressionsTyped.{sound}
use Rattle.check_typing.proofs.ResultsTyped.{sound_result}
use Rattle.check_typing.proofs.laws.cores_are_typed.Goals as goal

pub returns-clause-by_itself : goal.returns-clause-by_itself
returns-clause-by_itself c s core scope e t d of h = (sound s core of e).has scope t (d, false) h refl

pub returns-clause-against : goal.returns-clause-against
returns-clause-against c s core scope e t d of h = (sound s core of e).checked scope t (d, false) h refl

pub returns-clause-result : goal.returns-clause-result
returns-clause-result c s core scope e tys d of h = (sound_result s core of e).result scope tys (d, false) h refl
