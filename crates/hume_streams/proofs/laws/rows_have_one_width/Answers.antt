use Rattle.hume_streams.proofs.RowWidths.{queue_width, log_width}
use Rattle.hume_streams.proofs.laws.rows_have_one_width.Goals as goal

pub returns-clause-queues : goal.returns-clause-queues
returns-clause-queues c = queue_width

pub returns-clause-logs : goal.returns-clause-logs
returns-clause-logs c = log_width
