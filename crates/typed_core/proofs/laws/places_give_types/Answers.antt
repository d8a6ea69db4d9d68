use Rattle.typed_core.proofs.PartsTyped.{parts_typed}
use Rattle.typed_core.proofs.laws.places_give_types.Goals as goal

pub returns : goal.returns
returns c = λ core vars e ty typed. parts_typed core typed
