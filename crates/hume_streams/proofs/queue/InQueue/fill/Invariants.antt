use Rattle.std.proofs.Common.{◌*◌, ◌+◌, ◌-◌, length}
use Rattle.hume_streams.specs.Queues.{queue_view}
use Rattle.hume_streams.proofs.Filling.{HasFilled}
use Rattle.hume_streams.proofs.queue.InQueue.fill.Given as goal

abbrev pub invariant-values : goal.invariant-values
invariant-values g l = HasFilled l.types l.ty l.want (queue_view l.initial.self) (queue_view l.self)
    ((goal.Port-dyn g (l.initial.port.vtable, l.initial.port.value)).view l.initial.port.value)
    ((goal.Port-dyn g (l.port.vtable, l.port.value)).view l.port.value)

abbrev pub decreases-values : goal.decreases-values
decreases-values g l = (l.want - length (queue_view l.self).values) * 65537 + (65536 - l.self.empty_lines)
