use Rattle.hume_streams.proofs.GoodOnce.{queue_front}
use Rattle.hume_streams.proofs.laws.queues_hold_the_next_values.Goals as goal

pub returns : goal.returns
returns c types ty queue text rest given good bad names q g = queue_front types ty queue text rest given good bad names q g
