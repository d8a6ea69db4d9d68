use Rattle.std.proofs.Common.{◌≡◌, length, ap, sym, ◌∙◌, arith}
use Rattle.wire_cells.specs.Cells.{CellView}
use Rattle.wire_cells.specs.inner.Rings.{from_first}
use Rattle.wire_cells.proofs.Rings.{rows_long}
use Rattle.wire_cells.proofs.ring.Ring.count.Goals as goal

pub returns-clause-count : goal.returns-clause-count
returns-clause-count c =
    let cell = c.self.inside in
    sym (rows_long cell.count cell.size (from_first cell.first cell.words.items))
    ∙ ap (λ (v : CellView). length v.values) c.self.view_is

pub returns-clause-within : goal.returns-clause-within
returns-clause-within c =
    let cell = c.self.inside in
    let held = returns-clause-count c in
    let depth : cell.depth ≡ c.args.self.now.depth = ap (λ (v : CellView). v.depth) c.self.view_is in
    omega (arith, c.self.invariant.4, held, depth)
