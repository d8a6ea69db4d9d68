use Rattle.std.proofs.Common.{sym, subst}
use Rattle.hume_streams.specs.declared.queue.InQueue.{InQueue}
use Rattle.hume_streams.specs.Queues.{queue_view}
use Rattle.box_step.specs.nodes.Right.{IsRightQueue}
use Rattle.box_step.proofs.nodes_lemmas.FirstCells.{first_queued}
use Rattle.box_step.proofs.nodes.making.make_queue.Goals as goal

pub returns : goal.returns
returns c = λ opening program opens begins.
    subst (λ (queue : InQueue). IsRightQueue opening c.args.number 0 (queue_view queue)) (sym c.in_ok-new.ensures.ok)
    (first_queued opening c.args.core.now opens c.args.number c.args.span program begins c.requires.there.0 c.requires.there.1
    (queue_view c.in_ok-queue.queue) c.in_ok-queue.ensures)
