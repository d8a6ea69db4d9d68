use Rattle.std.proofs.Common.{◌≡◌, List, drop}
use Rattle.std.specs.List.{list_all}
use Rattle.wire_cells.specs.Cells.{CellView}
use Rattle.wire_cells.specs.Homes.{AreAtHome}
use Rattle.match_rules.specs.inner.Words.{is_full}
use Rattle.match_rules.proofs.plain.all_full.Given as goal

abbrev pub invariant-loop-number : goal.invariant-loop-number
invariant-loop-number l = (cells : List CellView) → AreAtHome l.side l.home cells
    → list_all is_full (drop l.number-index cells) ≡ list_all is_full cells
