use Rattle.std.proofs.Common.{map, get_or, drop, Some, ap, ◌∙◌, arith}
use Rattle.std.proofs.lemmas.Option.{slice_get-get_or}
use Rattle.wire_cells.specs.Cells.{CellView}
use Rattle.wire_cells.proofs.AtHome.{cell_found}
use Rattle.box_step.proofs.nodes_lemmas.HomeCells.{others_by, cells_by}
use Rattle.box_step.proofs.nodes_lemmas.OneCell.{one_made}
use Rattle.box_step.proofs.nodes.executing.take_value.Goals as goal

pub take_one_at-requires-clause-whole : goal.take_one_at-requires-clause-whole
take_one_at-requires-clause-whole c =
    let side = c.args.side.now in
    let one = c.requires.one in
    let here = slice_get-get_or side 0 0 (omega (arith, one)) in
    let ins = c.requires.home.0 in
    let at = c.requires.home.1 in
    let seen = cell_found side c.args.home.now ins 0 (get_or side 0 0) at here in
    (seen.0, seen.1, (λ words. c.requires.whole ins at 0 seen.0 words seen.2))

pub returns-clause-log : goal.returns-clause-log
returns-clause-log c = λ ins at cell found.
    let side = c.args.side.now in
    let one = c.requires.one in
    let here = slice_get-get_or side 0 0 (omega (arith, one)) in
    c.take_one_at.ensures.log cell (at.each 0 (get_or side 0 0) here ∙ ap (λ o. Some o) found)

pub returns-clause-ins : goal.returns-clause-ins
returns-clause-ins c = λ ins at.
    let side = c.args.side.now in
    let one = c.requires.one in
    let here = slice_get-get_or side 0 0 (omega (arith, one)) in
    let seen = cell_found side c.args.home.now ins 0 (get_or side 0 0) at here in
    let less = λ (cell : CellView). record cell { values = drop 1 cell.values } in
    cells_by side c.requires.apart 0 (get_or side 0 0) here c.args.home.now c.take_one_at.new.home (less seen.0) (c.take_one_at.ensures.home seen.0 seen.1)
    ins (map less ins) at (one_made less ins seen.0 (at.long ∙ one) seen.2)

pub returns-clause-others : goal.returns-clause-others
returns-clause-others c =
    let side = c.args.side.now in
    let one = c.requires.one in
    let here = slice_get-get_or side 0 0 (omega (arith, one)) in
    let seen = cell_found side c.args.home.now c.requires.home.0 0 (get_or side 0 0) c.requires.home.1 here in
    let less = λ (cell : CellView). record cell { values = drop 1 cell.values } in
    others_by side c.requires.apart 0 (get_or side 0 0) here c.args.home.now c.take_one_at.new.home (less seen.0) (c.take_one_at.ensures.home seen.0 seen.1)
