-- The queue or log of a stream, and the cell with another one.
use Rattle.std.specs.Prelude.{Option, None, Some}
use Rattle.std.specs.Borrow.{LendsIf, MutBor, Fml}
use Rattle.hume_streams.specs.declared.queue.InQueue.{InQueue}
use Rattle.hume_streams.specs.declared.log.OutLog.{OutLog}
use Rattle.hume_streams.specs.contracts.queue.InQueue as queue_type
use Rattle.hume_streams.specs.contracts.log.OutLog as log_type
use Rattle.box_step.specs.declared.nodes.cell.Kind.{Kind}
use Rattle.box_step.specs.declared.nodes.cell.Kind.TheVariants.{Coded, Queued, Logged}
use Rattle.box_step.specs.declared.nodes.cell.BoxCell.{BoxCell}
use Rattle.box_step.specs.contracts.nodes.cell.BoxCell as cell_type

-- the queue of an input stream
abbrev pub queue_in : Kind → Option InQueue
queue_in (Coded box) = None
queue_in (Queued queue) = Some queue.value
queue_in (Logged log) = None

-- the log of an output stream
abbrev pub log_in : Kind → Option OutLog
log_in (Coded box) = None
log_in (Queued queue) = None
log_in (Logged log) = Some log.value

-- an input stream with another queue
abbrev pub with_queue : Kind → InQueue → Kind
with_queue (Coded box) queue = Coded box
with_queue (Queued old) queue = Queued (record old { value = queue })
with_queue (Logged log) queue = Logged log

-- an output stream with another log
abbrev pub with_log : Kind → OutLog → Kind
with_log (Coded box) log = Coded box
with_log (Queued queue) log = Queued queue
with_log (Logged old) log = Logged (record old { value = log })

-- the cell ends with the queue as it was left, and as it was where it has none
abbrev pub LendsQueue : MutBor BoxCell → Option (MutBor InQueue) → Fml
LendsQueue cell lent = LendsIf cell_type.the_row queue_type.the_row cell lent (λ queue. record cell.now { kind = with_queue cell.now.kind queue }) cell.now

-- the cell ends with the log as it was left, and as it was where it has none
abbrev pub LendsLog : MutBor BoxCell → Option (MutBor OutLog) → Fml
LendsLog cell lent = LendsIf cell_type.the_row log_type.the_row cell lent (λ log. record cell.now { kind = with_log cell.now.kind log }) cell.now
