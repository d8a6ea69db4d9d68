use Rattle.std.proofs.Common.{◌≡◌, ◌*◌, ◌++◌, drop, length, arith, ap, ◌∙◌, ℕ, List, [], ◌∷◌}
use Rattle.hume_streams.proofs.RowCuts.{length-cut_rows, row_fits, cut_rows-pushed, next_row}
use Rattle.hume_streams.specs.Contents.{cut_rows}
use Rattle.hume_streams.proofs.rows.Rows.push.Goals as goal

pub append-requires : goal.append-requires
append-requires c =
    let rows = c.close_up.new.self in
    let old = c.args.self.now in
    let l = length-cut_rows old.width old.count (drop old.start old.words.items) in
    let fits = row_fits rows.width rows.count rows.span (omega (arith, l, c.requires.room, c.close_up.ensures.count, c.close_up.ensures.span)) in
    omega (arith, fits, rows.filled, rows.reserved, c.close_up.ensures.start, c.requires.width, c.close_up.ensures.width)

pub overflow_add-self : goal.overflow_add-self
overflow_add-self c =
    let old = c.args.self.now in
    let l = length-cut_rows old.width old.count (drop old.start old.words.items) in
    omega (arith, l, c.requires.room, c.close_up.ensures.count)

pub invariant_of-self-clause-filled : goal.invariant_of-self-clause-filled
invariant_of-self-clause-filled c =
    let rows = c.close_up.new.self in
    let next = next_row rows.width rows.count in
    omega (arith, next, rows.filled, c.close_up.ensures.start, c.requires.width, c.close_up.ensures.width, c.append.ensures.length)

pub invariant_of-self-clause-within : goal.invariant_of-self-clause-within
invariant_of-self-clause-within c =
    let old = c.args.self.now in
    let l = length-cut_rows old.width old.count (drop old.start old.words.items) in
    omega (arith, l, c.requires.room, c.close_up.ensures.count, c.close_up.ensures.span)

pub returns-clause-rows : goal.returns-clause-rows
returns-clause-rows c =
    let rows = c.close_up.new.self in
    let old = c.args.self.now in
    let filled : length rows.words.items ≡ rows.count * rows.width = omega (arith, rows.filled, c.close_up.ensures.start) in
    let same : cut_rows rows.width rows.count rows.words.items ≡ cut_rows old.width old.count (drop old.start old.words.items) =
    ap (λ w. cut_rows w rows.count rows.words.items) c.close_up.ensures.width
    ∙ ap (λ n. cut_rows old.width n rows.words.items) c.close_up.ensures.count
    ∙ ap (cut_rows old.width old.count) c.close_up.ensures.rows in
    cut_rows-pushed rows.width rows.count rows.start rows.words.items c.append.new.words.items c.args.row.now filled c.close_up.ensures.start
    (omega (arith, c.requires.width, c.close_up.ensures.width)) c.append.ensures.items
    ∙ ap (λ (rs : List (List ℕ)). rs ++ c.args.row.now ∷ []) same
