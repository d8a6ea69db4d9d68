use Rattle.hume_base.proofs.FlatLengths.{flat_long}
use Rattle.hume_base.proofs.laws.values_have_their_sizes.Goals as goal

pub returns : goal.returns
returns c = λ types ty v is. flat_long types ty v is
