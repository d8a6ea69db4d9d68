use Rattle.typed_core.proofs.ResultPartsTyped.{result_parts_typed}
use Rattle.typed_core.proofs.laws.places_in_results_give_types.Goals as goal

pub returns-clause-parts : goal.returns-clause-parts
returns-clause-parts c = λ core tys vars r typed. (result_parts_typed core tys typed).0

pub returns-clause-inners : goal.returns-clause-inners
returns-clause-inners c = λ core tys vars r typed. (result_parts_typed core tys typed).1
