-- When cells of wires and nodes are right for an opening, each at its own time.
use Rattle.std.specs.Prelude.{◌≡◌, ◌<◌, ℕ, ⊤, List, [], map, length, Some, slice_get}
use Rattle.hume_base.specs.Sizes.{size_of}
use Rattle.hume_base.specs.Flat.{flat}
use Rattle.hume_model.specs.declared.core_tree.BoxC.{BoxC}
use Rattle.hume_model.specs.declared.core_tree.StreamC.{StreamC}
use Rattle.hume_model.specs.declared.core_tree.WireC.{WireC}
use Rattle.hume_model.specs.declared.core_tree.NodeC.TheVariants.{Rules, From, To}
use Rattle.hume_net.specs.Lockstep.{node_at, wire_at, executes}
use Rattle.box_costs.specs.declared.cost.Cost.{Cost}
use Rattle.box_costs.specs.Costs.{either}
use Rattle.net_costs.specs.Steps.{peaks}
use Rattle.hume_streams.specs.Queues.{QueueView, queue_view}
use Rattle.hume_streams.specs.Logs.{LogView, log_view}
use Rattle.wire_cells.specs.Cells.{CellView, Holds}
use Rattle.box_step.specs.Views.{CompiledView}
use Rattle.box_step.specs.Boxes.{IsBoxAt}
use Rattle.box_step.specs.declared.nodes.cell.Kind.{Kind}
use Rattle.box_step.specs.declared.nodes.cell.Kind.TheVariants.{Coded, Queued, Logged}
use Rattle.box_step.specs.declared.nodes.cell.BoxCell.{BoxCell}
use Rattle.box_step.specs.nodes.Openings.{Opening}
use Rattle.box_step.specs.nodes.Sides.{brought_type, taken_type}

-- the cell is that of a wire, and holds what is on the wire at the cell's time
pub record IsRightWire (opening : Opening) (cell : CellView) : Type 0 where
  pub wire : WireC
  pub there : slice_get opening.core.wires cell.number ≡ Some wire
  pub holds : Holds opening.core.types wire cell (wire_at opening.core opening.state cell.number cell.time)

-- each of the cells is right
pub record AreRightWires (opening : Opening) (cells : List CellView) : Type 0 where
  pub each : (place : ℕ) (cell : CellView) → slice_get cells place ≡ Some cell → IsRightWire opening cell

-- the most that a node took in an execute step before a time: before the opening, or since
abbrev pub most_taken : Opening → ℕ → ℕ → Cost
most_taken opening n time = either (opening.peaks n) (peaks opening.core opening.state (executes time) n)

-- the compiled box is one of the node, and at the node's part at the time; its peaks are the most that the node took
pub record IsRightBox (opening : Opening) (n time : ℕ) (box : CompiledView) : Type 0 where
  pub b : BoxC
  pub there : slice_get opening.core.nodes n ≡ Some (Rules b)
  pub at : IsBoxAt opening.core b (node_at opening.core opening.state n time) box
  pub heap : box.heap.peak ≡ (most_taken opening n time).heap
  pub stack : box.stack.peak ≡ (most_taken opening n time).stack

-- the queue holds what an input stream has yet to bring at the time, and all else is as in the opening
pub record IsRightQueue (opening : Opening) (n time : ℕ) (queue : QueueView) : Type 0 where
  pub stream : StreamC
  pub there : slice_get opening.core.nodes n ≡ Some (From stream)
  pub values : queue.values ≡ map (flat opening.core.types (brought_type opening.core n)) (node_at opening.core opening.state n time).coming
  pub rest : record queue { values = [] } ≡ opening.queues n

-- the log holds what an output stream has taken at the time, and all else is as in the opening
pub record IsRightLog (opening : Opening) (n time : ℕ) (log : LogView) : Type 0 where
  pub stream : StreamC
  pub there : slice_get opening.core.nodes n ≡ Some (To stream)
  pub values : log.values ≡ map (flat opening.core.types (taken_type opening.core n)) (node_at opening.core opening.state n time).taken
  pub width : log.width ≡ size_of opening.core.types (taken_type opening.core n)
  pub rest : record log { values = [] } ≡ opening.logs n

-- what runs a node is right for it at a time
abbrev pub IsRightNode : Opening → ℕ → ℕ → Kind → Type 0
IsRightNode opening n time (Coded box) = IsRightBox opening n time box.value
IsRightNode opening n time (Queued queue) = IsRightQueue opening n time (queue_view queue.value)
IsRightNode opening n time (Logged log) = IsRightLog opening n time (log_view log.value)

-- the cell of a node and cells of wires are right, each at its time
pub record AreRight (opening : Opening) (node : BoxCell) (cells : List CellView) : Type 0 where
  pub kind : IsRightNode opening node.number node.time node.kind
  pub wires : AreRightWires opening cells

-- a log holds fewer values than it may
abbrev pub HasRoom : Kind → Type 0
HasRoom (Coded box) = ⊤
HasRoom (Queued queue) = ⊤
HasRoom (Logged log) = length (log_view log.value).values < (log_view log.value).span

-- the most words of heap that a box took; none of a stream
abbrev pub heap_peak_of : Kind → ℕ
heap_peak_of (Coded box) = box.value.heap.peak
heap_peak_of (Queued queue) = 0
heap_peak_of (Logged log) = 0

-- the most words of stack that a box took
abbrev pub stack_peak_of : Kind → ℕ
stack_peak_of (Coded box) = box.value.stack.peak
stack_peak_of (Queued queue) = 0
stack_peak_of (Logged log) = 0

-- the instructions of a box's last execute step
abbrev pub work_of : Kind → ℕ
work_of (Coded box) = box.value.work
work_of (Queued queue) = 0
work_of (Logged log) = 0
