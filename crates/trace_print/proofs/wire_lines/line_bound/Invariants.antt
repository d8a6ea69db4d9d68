use Rattle.std.proofs.Common.{◌≡◌, ◌≤◌, map, take}
use Rattle.hume_base.specs.Sizes.{greatest}
use Rattle.trace_print.specs.Rooms.{wire_room}
use Rattle.trace_print.specs.inner.Ends.{MOST_ROOM}
use Rattle.trace_print.proofs.wire_lines.line_bound.Given as goal

abbrev pub invariant-loop-w : goal.invariant-loop-w
invariant-loop-w l = (l.most ≡ greatest (map (wire_room l.core.types) (take l.w l.core.wires))) × (l.most ≤ MOST_ROOM)
