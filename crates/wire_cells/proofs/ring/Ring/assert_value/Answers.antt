use Rattle.std.proofs.Common.{◌≡◌, ◌+◌, ◌<◌, List, ℕ, [], ◌∷◌, ◌++◌, length, take, drop, ap, ◌∙◌, arith}
use Rattle.wire_cells.specs.Cells.{CellView}
use Rattle.wire_cells.specs.inner.Rings.{rows, from_first, on_from}
use Rattle.wire_cells.proofs.Rings.{rows_long, next_within, next_later, held_more, refilled}
use Rattle.wire_cells.proofs.ring.Ring.assert_value.Goals as goal

pub write_row-requires : goal.write_row-requires
write_row-requires c =
    let cell = c.self.inside in
    let count = rows_long cell.count cell.size (from_first cell.first cell.words.items) in
    let same = ap (λ (v : CellView). length v.values) c.self.view_is in
    let depth : cell.depth ≡ c.args.self.now.depth = ap (λ (v : CellView). v.depth) c.self.view_is in
    let less : cell.count < cell.depth = omega (arith, count, same, depth, c.requires.room) in
    let size : cell.size ≡ c.args.self.now.size = ap (λ (v : CellView). v.size) c.self.view_is in
    let row = next_within c.self.invariant.0 cell.first cell.next cell.count cell.depth cell.size cell.words.items
    c.self.invariant.1 c.self.invariant.2 c.self.invariant.3 c.self.invariant.4 c.self.invariant.5 less in
    let all : length c.deref_mut.result.now ≡ length cell.words.items = ap length c.deref_mut.ensures.value in
    omega (arith, row, all, size, c.requires.whole)

pub invariant_of-self : goal.invariant_of-self
invariant_of-self c =
    let cell = c.self.inside in
    let count = rows_long cell.count cell.size (from_first cell.first cell.words.items) in
    let same = ap (λ (v : CellView). length v.values) c.self.view_is in
    let depth : cell.depth ≡ c.args.self.now.depth = ap (λ (v : CellView). v.depth) c.self.view_is in
    let less : cell.count < cell.depth = omega (arith, count, same, depth, c.requires.room) in
    let all : c.len.result ≡ length cell.words.items = omega (arith, c.len.ensures, cell.words.ok.0) in
    let whole : length c.write_row.new.into ≡ length cell.words.items = c.write_row.ensures.room ∙ ap length c.deref_mut.ensures.value in (
      c.self.invariant.0,
      c.self.invariant.1,
      c.self.invariant.2,
      c.on_from-self-inside.ensures ∙ ap (on_from (cell.next + cell.size)) all
          ∙ next_later c.self.invariant.0 cell.first cell.next cell.count cell.depth cell.size cell.words.items
          c.self.invariant.1 c.self.invariant.2 c.self.invariant.3 c.self.invariant.4 c.self.invariant.5 less,
      omega (arith, less),
      ap length (refilled cell.words.items c.write_row.new.into cell.words.len cell.words.ok.0 whole) ∙ whole ∙ c.self.invariant.5,
      c.self.invariant.6,
      c.self.invariant.7,
    )

pub returns : goal.returns
returns c =
    let cell = c.self.inside in
    let count = rows_long cell.count cell.size (from_first cell.first cell.words.items) in
    let same = ap (λ (v : CellView). length v.values) c.self.view_is in
    let depth : cell.depth ≡ c.args.self.now.depth = ap (λ (v : CellView). v.depth) c.self.view_is in
    let less : cell.count < cell.depth = omega (arith, count, same, depth, c.requires.room) in
    let size : cell.size ≡ c.args.self.now.size = ap (λ (v : CellView). v.size) c.self.view_is in
    let row = c.args.words.now in
    let long : length row ≡ cell.size = omega (arith, c.requires.whole, size) in
    let whole : length c.write_row.new.into ≡ length cell.words.items = c.write_row.ensures.room ∙ ap length c.deref_mut.ensures.value in
    let refill = refilled cell.words.items c.write_row.new.into cell.words.len cell.words.ok.0 whole in
    let new : c.write_row.new.into ≡ take cell.next cell.words.items ++ row ++ drop (cell.next + cell.size) cell.words.items =
    c.write_row.ensures.words
    ∙ ap (λ ws. take cell.next ws ++ row ++ drop (cell.next + length row) ws) c.deref_mut.ensures.value
    ∙ ap (λ n. take cell.next cell.words.items ++ row ++ drop (cell.next + n) cell.words.items) long in
    let values : rows (cell.count + 1) cell.size (from_first cell.first
    (take cell.words.len (c.write_row.new.into ++ drop (length c.write_row.new.into) cell.words.items)))
    ≡ rows cell.count cell.size (from_first cell.first cell.words.items) ++ row ∷ [] =
    ap (λ ws. rows (cell.count + 1) cell.size (from_first cell.first ws)) refill
    ∙ held_more c.self.invariant.0 cell.first cell.next cell.count cell.depth cell.size cell.words.items
    c.self.invariant.1 c.self.invariant.2 c.self.invariant.3 c.self.invariant.4 c.self.invariant.5 row c.write_row.new.into less long new whole in
    ap (λ (vs : List (List ℕ)). record { number = cell.number; time = cell.time; values = vs; size = cell.size; depth = cell.depth }) values
    ∙ ap (λ (v : CellView). record v { values = v.values ++ row ∷ [] }) c.self.view_is
