use Rattle.std.proofs.Common.{◌≡◌, List, drop, slice_get}
use Rattle.std.specs.List.{find}
use Rattle.hume_model.specs.BoxTyping.{port_types}
use Rattle.wire_cells.specs.Cells.{CellView}
use Rattle.wire_cells.specs.Homes.{AreAtHome}
use Rattle.match_rules.specs.inner.WordTests.{rule_test}
use Rattle.match_rules.proofs.choosing.first_passing.Given as goal

abbrev pub invariant-loop-i : goal.invariant-loop-i
invariant-loop-i l = (cells : List CellView) → AreAtHome l.side l.home cells
    → find (λ number. rule_test l.types (port_types l.b.ins) cells (slice_get l.b.rules number)) (drop l.i l.order)
    ≡ find (λ number. rule_test l.types (port_types l.b.ins) cells (slice_get l.b.rules number)) l.order
