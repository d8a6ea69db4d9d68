use Rattle.c_meaning.proofs.Counts.{items_stay}
use Rattle.c_meaning.proofs.laws.functions_keep_their_meaning.Goals as goal

pub returns : goal.returns
returns c = items_stay
