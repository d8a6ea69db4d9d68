use Rattle.std.proofs.Common.{◌+◌, ◌*◌, ◌≤◌, take, drop, arith, ap, sym, ◌∙◌, Some, ℕ, List}
use Rattle.std.proofs.lemmas.List.{drop-drop}
use Rattle.hume_streams.proofs.RowCuts.{length-cut_rows, row_within, cut_rows-get}
use Rattle.hume_streams.proofs.rows.Rows.at.Goals as goal

pub overflow_add-from : goal.overflow_add-from
overflow_add-from c =
    let rows = c.args.self.now in
    let l = length-cut_rows rows.width rows.count (drop rows.start rows.words.items) in
    let within : c.args.place * rows.width + rows.width ≤ rows.count * rows.width = row_within rows.width rows.count c.args.place (omega (arith, l, c.requires)) in
    omega (arith, within, rows.filled)

pub row_from-requires : goal.row_from-requires
row_from-requires c =
    let rows = c.args.self.now in
    let l = length-cut_rows rows.width rows.count (drop rows.start rows.words.items) in
    let within : c.args.place * rows.width + rows.width ≤ rows.count * rows.width = row_within rows.width rows.count c.args.place (omega (arith, l, c.requires)) in
    omega (arith, within, rows.filled)

pub returns : goal.returns
returns c =
    let rows = c.args.self.now in
    let l = length-cut_rows rows.width rows.count (drop rows.start rows.words.items) in
    cut_rows-get rows.width rows.count (drop rows.start rows.words.items) c.args.place (omega (arith, l, c.requires))
    ∙ ap (λ (ws : List ℕ). Some (take rows.width ws)) (drop-drop (c.args.place * rows.width) rows.start rows.words.items)
    ∙ ap (λ (ws : List ℕ). Some (take rows.width (drop (rows.start + c.args.place * rows.width) ws))) (sym c.deref.ensures.value)
    ∙ ap (λ (row : List ℕ). Some row) (sym c.row_from.ensures)
