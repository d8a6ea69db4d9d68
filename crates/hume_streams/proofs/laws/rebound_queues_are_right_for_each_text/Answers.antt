use Rattle.hume_streams.proofs.Givings.{first_right}
use Rattle.hume_streams.proofs.laws.rebound_queues_are_right_for_each_text.Goals as goal

pub returns : goal.returns
returns c types ty queue text = first_right types ty queue.width queue.span text
