use Rattle.std.proofs.Common.{◌≡◌, ◌+◌, ◌*◌, length, take, drop, Some, slice_get, ap, sym, ◌∙◌, arith}
use Rattle.wire_cells.specs.Cells.{CellView}
use Rattle.wire_cells.specs.inner.Rings.{from_first, wrapped}
use Rattle.wire_cells.proofs.Rings.{rows_long, place_within, held_at}
use Rattle.wire_cells.proofs.ring.Ring.nth.Goals as goal

pub row_at-requires : goal.row_at-requires
row_at-requires c =
    let cell = c.self.inside in
    let count = rows_long cell.count cell.size (from_first cell.first cell.words.items) in
    let same = ap (λ (v : CellView). length v.values) c.self.view_is in
    let end : c.len.result ≡ length cell.words.items = omega (arith, c.len.ensures, cell.words.ok.0) in
    let start : c.wrapped-start.result ≡ wrapped (cell.first + c.args.i * cell.size) (length cell.words.items) =
    c.wrapped-start.ensures ∙ ap (wrapped (cell.first + c.args.i * cell.size)) end in
    let row = place_within c.self.invariant.0 cell.first cell.next cell.count cell.depth cell.size cell.words.items
    c.self.invariant.1 c.self.invariant.2 c.self.invariant.3 c.self.invariant.4 c.self.invariant.5 c.args.i (omega (arith, count, same, c.requires)) in
    let all : length c.deref.result.now ≡ length cell.words.items = ap length c.deref.ensures.value in
    omega (arith, row, all, start)

pub returns : goal.returns
returns c =
    let cell = c.self.inside in
    let count = rows_long cell.count cell.size (from_first cell.first cell.words.items) in
    let same = ap (λ (v : CellView). length v.values) c.self.view_is in
    let end : c.len.result ≡ length cell.words.items = omega (arith, c.len.ensures, cell.words.ok.0) in
    let start : c.wrapped-start.result ≡ wrapped (cell.first + c.args.i * cell.size) (length cell.words.items) =
    c.wrapped-start.ensures ∙ ap (wrapped (cell.first + c.args.i * cell.size)) end in
    ap (λ (v : CellView). slice_get v.values c.args.i) (sym c.self.view_is)
    ∙ held_at c.self.invariant.0 cell.first cell.next cell.count cell.depth cell.size cell.words.items
    c.self.invariant.1 c.self.invariant.2 c.self.invariant.3 c.self.invariant.4 c.self.invariant.5 c.args.i (omega (arith, count, same, c.requires))
    ∙ ap (λ n. Some (take cell.size (drop n cell.words.items))) (sym start)
    ∙ ap (λ ws. Some (take cell.size (drop c.wrapped-start.result ws))) (sym c.deref.ensures.value)
    ∙ ap (λ ws. Some ws) (sym c.row_at.ensures)
