use Rattle.std.proofs.Common.{◌≡◌, ◌≤◌, ◌+◌, ◌-◌, ◌*◌, List, ℕ, length, drop, ap, sym, ◌∙◌, arith}
use Rattle.wire_cells.specs.Cells.{CellView}
use Rattle.wire_cells.specs.inner.Rings.{rows, from_first, on_from, wrapped}
use Rattle.wire_cells.proofs.Rings.{rows_long, first_later, held_less, wrapped_within, wrapped_less}
use Rattle.wire_cells.proofs.ring.Ring.take.Goals as goal

pub overflow_sub-self : goal.overflow_sub-self
overflow_sub-self c =
    let cell = c.self.inside in
    let count = rows_long cell.count cell.size (from_first cell.first cell.words.items) in
    let same = ap (λ (v : CellView). length v.values) c.self.view_is in
    omega (arith, count, same, c.requires)

pub invariant_of-self : goal.invariant_of-self
invariant_of-self c =
    let cell = c.self.inside in
    let row = c.self.invariant.0 in
    let count = rows_long cell.count cell.size (from_first cell.first cell.words.items) in
    let same = ap (λ (v : CellView). length v.values) c.self.view_is in
    let some : 1 ≤ cell.count = omega (arith, count, same, c.requires) in
    let all : c.len.result ≡ length cell.words.items = omega (arith, c.len.ensures, cell.words.ok.0) in (
      wrapped (row + 1) cell.depth,
      wrapped_within (row + 1) cell.depth (omega (arith, c.self.invariant.1)),
      c.on_from-self-inside.ensures ∙ ap (on_from (cell.first + cell.size)) all
          ∙ first_later c.self.invariant.0 cell.first cell.next cell.count cell.depth cell.size cell.words.items
          c.self.invariant.1 c.self.invariant.2 c.self.invariant.3 c.self.invariant.4 c.self.invariant.5,
      c.self.invariant.3 ∙ sym (ap (λ n. n * cell.size) (wrapped_less row cell.depth cell.count c.self.invariant.1 c.self.invariant.4 some)),
      omega (arith, c.self.invariant.4),
      c.self.invariant.5,
      c.self.invariant.6,
      c.self.invariant.7,
    )

pub returns : goal.returns
returns c =
    let cell = c.self.inside in
    let count = rows_long cell.count cell.size (from_first cell.first cell.words.items) in
    let same = ap (λ (v : CellView). length v.values) c.self.view_is in
    let all : c.len.result ≡ length cell.words.items = omega (arith, c.len.ensures, cell.words.ok.0) in
    let values : rows (cell.count - 1) cell.size (from_first c.on_from-self-inside.result cell.words.items)
    ≡ drop 1 (rows cell.count cell.size (from_first cell.first cell.words.items)) =
    ap (λ n. rows (cell.count - 1) cell.size (from_first n cell.words.items)) (c.on_from-self-inside.ensures ∙ ap (on_from (cell.first + cell.size)) all)
    ∙ held_less c.self.invariant.0 cell.first cell.next cell.count cell.depth cell.size cell.words.items
    c.self.invariant.1 c.self.invariant.2 c.self.invariant.3 c.self.invariant.4 c.self.invariant.5 (omega (arith, count, same, c.requires)) in
    ap (λ (vs : List (List ℕ)). record { number = cell.number; time = cell.time; values = vs; size = cell.size; depth = cell.depth }) values
    ∙ ap (λ (v : CellView). record v { values = drop 1 v.values }) c.self.view_is
