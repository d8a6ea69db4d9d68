use Rattle.hume_streams.proofs.GoodOnce.{good_once}
use Rattle.hume_streams.proofs.laws.good_values_are_unique.Goals as goal

pub returns : goal.returns
returns c types ty text good values bad other names h g = good_once types ty text good values bad other names h g
