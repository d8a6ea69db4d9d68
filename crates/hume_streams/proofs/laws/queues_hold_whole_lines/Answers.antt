use Rattle.hume_streams.proofs.WholeLines.{taken_given}
use Rattle.hume_streams.proofs.laws.queues_hold_whole_lines.Goals as goal

pub returns : goal.returns
returns c types ty queue taken given read right = taken_given types ty queue taken given read right
