use Rattle.std.proofs.Common.{◌≡◌, length, ap, sym, ◌∙◌, arith}
use Rattle.wire_cells.specs.Cells.{CellView}
use Rattle.wire_cells.specs.inner.Rings.{from_first}
use Rattle.wire_cells.proofs.Rings.{rows_long}
use Rattle.wire_cells.proofs.ring.Ring.room.Goals as goal

pub returns : goal.returns
returns c =
    let cell = c.self.inside in
    let count : cell.count ≡ length c.args.self.now.values =
    sym (rows_long cell.count cell.size (from_first cell.first cell.words.items))
    ∙ ap (λ (v : CellView). length v.values) c.self.view_is in
    let depth : cell.depth ≡ c.args.self.now.depth = ap (λ (v : CellView). v.depth) c.self.view_is in
    grind (arith, count, depth)
