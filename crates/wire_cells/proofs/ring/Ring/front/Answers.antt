use Rattle.std.proofs.Common.{◌≤◌, length, take, drop, Some, slice_get, ap, sym, ◌∙◌, arith}
use Rattle.wire_cells.specs.Cells.{CellView}
use Rattle.wire_cells.specs.inner.Rings.{from_first}
use Rattle.wire_cells.proofs.Rings.{rows_long, held_first}
use Rattle.wire_cells.proofs.ring.Ring.front.Goals as goal

pub returns : goal.returns
returns c =
    let cell = c.self.inside in
    let count = rows_long cell.count cell.size (from_first cell.first cell.words.items) in
    let same = ap (λ (v : CellView). length v.values) c.self.view_is in
    let some : 1 ≤ cell.count = omega (arith, count, same, c.requires) in
    ap (λ (v : CellView). slice_get v.values 0) (sym c.self.view_is)
    ∙ held_first c.self.invariant.0 cell.first cell.next cell.count cell.depth cell.size cell.words.items
    c.self.invariant.1 c.self.invariant.2 c.self.invariant.3 c.self.invariant.4 c.self.invariant.5 some
    ∙ ap (λ ws. Some (take cell.size (drop cell.first ws))) (sym c.deref.ensures.value)
    ∙ ap (λ ws. Some ws) (sym c.row_at.ensures)
