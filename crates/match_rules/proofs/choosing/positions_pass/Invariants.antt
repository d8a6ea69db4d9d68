use Rattle.std.proofs.Common.{◌≡◌, List, drop}
use Rattle.hume_model.specs.BoxTyping.{port_types}
use Rattle.wire_cells.specs.Cells.{CellView}
use Rattle.wire_cells.specs.Homes.{AreAtHome}
use Rattle.match_rules.specs.inner.WordTests.{positions_test}
use Rattle.match_rules.proofs.choosing.positions_pass.Given as goal

abbrev pub invariant-loop-i : goal.invariant-loop-i
invariant-loop-i l = (cells : List CellView) → AreAtHome l.side l.home cells
    → positions_test l.types (drop l.i l.pats) (port_types (drop l.i l.ports)) (drop l.i cells) ≡ positions_test l.types l.pats (port_types l.ports) cells
