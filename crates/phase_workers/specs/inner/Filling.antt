-- What is done to the cell of a stream.
use Rattle.std.specs.Prelude.{◌≡◌, ℕ, List, map, slice_set, Some, Result}
use Rattle.hume_base.specs.declared.types.Ty.{Ty}
use Rattle.hume_base.specs.declared.types.Types.{Types}
use Rattle.hume_model.specs.Readers.{value_from}
use Rattle.hume_net.specs.declared.state.State.{State}
use Rattle.hume_ports.specs.Port.{PortView}
use Rattle.hume_ports.specs.Ports.{ForNameAt, StepAt}
use Rattle.hume_streams.specs.declared.queue.FillError.{FillError}
use Rattle.hume_streams.specs.declared.queue.InQueue.{InQueue}
use Rattle.hume_streams.specs.declared.log.OutLog.{OutLog}
use Rattle.hume_streams.specs.Queues.{QueueView, queue_view}
use Rattle.hume_streams.specs.Logs.{LogView, log_view}
use Rattle.hume_streams.specs.Fills.{Fills}
use Rattle.hume_streams.specs.places.FillsOfPorts.{FillsFrom}
use Rattle.box_step.specs.declared.nodes.cell.BoxCell.{BoxCell}
use Rattle.box_step.specs.nodes.Lends.{queue_in, log_in, with_queue, with_log}

-- The cell has the queue as a fill left it, and the values that it holds are those to come.
pub record IsFilled (types : Types) (ty : Ty) (want node at : ℕ) (old new : BoxCell) (before after : State) (olds news : List PortView)
    (result : Result (Unit {0}) FillError) : Type 0 where
  pub queue : InQueue
  pub later : InQueue
  pub had : queue_in old.kind ≡ Some queue
  pub cell : new ≡ record old { kind = with_queue old.kind later }
  pub state : after ≡ record before { coming = slice_set before.coming node (map (value_from types ty) (queue_view later).values) }
  pub step : StepAt olds news at (λ before_port after_port. Fills types ty want (queue_view queue) (queue_view later) before_port after_port result)
  pub fills : ForNameAt at olds (λ name. FillsFrom types ty want (queue_view queue) (queue_view later) name olds news result)

-- The cell has another queue, which is this one.
pub record HasQueue (old new : BoxCell) (is : QueueView → QueueView) : Type 0 where
  pub queue : InQueue
  pub later : InQueue
  pub had : queue_in old.kind ≡ Some queue
  pub cell : new ≡ record old { kind = with_queue old.kind later }
  pub changed : queue_view later ≡ is (queue_view queue)

-- The cell has another log, which is this one.
pub record HasLog (old new : BoxCell) (is : LogView → LogView) : Type 0 where
  pub log : OutLog
  pub later : OutLog
  pub had : log_in old.kind ≡ Some log
  pub cell : new ≡ record old { kind = with_log old.kind later }
  pub changed : log_view later ≡ is (log_view log)
