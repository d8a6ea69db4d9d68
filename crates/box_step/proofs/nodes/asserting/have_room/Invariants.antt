use Rattle.std.proofs.Common.{◌≡◌, List, drop}
use Rattle.wire_cells.specs.Cells.{CellView}
use Rattle.wire_cells.specs.Homes.{AreAtHome}
use Rattle.match_rules.specs.Outputs.{have_room_for}
use Rattle.box_step.specs.inner.Buffers.{words_at}
use Rattle.box_step.proofs.nodes.asserting.have_room.Given as goal

abbrev pub invariant-loop-k : goal.invariant-loop-k
invariant-loop-k l = (outs : List CellView) → AreAtHome l.side l.home outs
    → have_room_for (words_at l.outputs) l.k (drop l.k outs) ≡ have_room_for (words_at l.outputs) 0 outs
