use Rattle.std.proofs.Common.{get_or, map, drop, if◌then◌else◌, ap, sym, ◌∙◌, arith}
use Rattle.std.proofs.lemmas.Option.{slice_get-get_or}
use Rattle.hume_streams.specs.Queues.{queue_view}
use Rattle.wire_cells.proofs.AtHome.{cell_found}
use Rattle.match_rules.specs.Outputs.{has_room_for, cell_with, asserted_in}
use Rattle.box_step.specs.nodes.Sides.{ticked}
use Rattle.box_step.specs.inner.HalfSteps.{next_row}
use Rattle.box_step.proofs.nodes_lemmas.HomeCells.{others_by, cells_by}
use Rattle.box_step.proofs.nodes_lemmas.OneCell.{room_one, fit_one, set_one}
use Rattle.box_step.proofs.nodes.asserting.assert_next.Goals as goal

pub assert_first_at-requires : goal.assert_first_at-requires
assert_first_at-requires c =
    let side = c.args.side.now in
    let one = c.requires.one in
    let here = slice_get-get_or side 0 0 (omega (arith, one)) in
    let outs = c.requires.home.0 in
    let at = c.requires.home.1 in
    let row = next_row (queue_view c.args.queue.now).values in
    let seen = cell_found side c.args.home.now outs 0 (get_or side 0 0) at here in
    (seen.0, seen.1, c.requires.early outs at 0 seen.0 seen.2, fit_one row outs seen.0 (at.long ∙ one) seen.2 (c.requires.fit outs at))

pub returns-clause-queue : goal.returns-clause-queue
returns-clause-queue c = λ outs at.
    let side = c.args.side.now in
    let one = c.requires.one in
    let here = slice_get-get_or side 0 0 (omega (arith, one)) in
    let queue = queue_view c.args.queue.now in
    let seen = cell_found side c.args.home.now outs 0 (get_or side 0 0) at here in
    c.assert_first_at.ensures.queue seen.0 seen.1
    ∙ ap (λ roomy. if roomy then record queue { values = drop 1 queue.values } else queue)
    (sym (room_one (next_row queue.values) outs seen.0 (at.long ∙ one) seen.2))

pub returns-clause-others : goal.returns-clause-others
returns-clause-others c =
    let side = c.args.side.now in
    let one = c.requires.one in
    let here = slice_get-get_or side 0 0 (omega (arith, one)) in
    let row = next_row (queue_view c.args.queue.now).values in
    let seen = cell_found side c.args.home.now c.requires.home.0 0 (get_or side 0 0) c.requires.home.1 here in
    others_by side c.requires.apart 0 (get_or side 0 0) here c.args.home.now c.assert_first_at.new.home
    (ticked (if has_room_for (row 0) seen.0 then cell_with (row 0) seen.0 else seen.0)) (c.assert_first_at.ensures.home seen.0 seen.1)

pub returns-clause-outs : goal.returns-clause-outs
returns-clause-outs c = λ outs at.
    let side = c.args.side.now in
    let one = c.requires.one in
    let here = slice_get-get_or side 0 0 (omega (arith, one)) in
    let row = next_row (queue_view c.args.queue.now).values in
    let seen = cell_found side c.args.home.now outs 0 (get_or side 0 0) at here in
    cells_by side c.requires.apart 0 (get_or side 0 0) here c.args.home.now c.assert_first_at.new.home
    (ticked (if has_room_for (row 0) seen.0 then cell_with (row 0) seen.0 else seen.0)) (c.assert_first_at.ensures.home seen.0 seen.1)
    outs (map ticked (asserted_in row outs)) at (set_one row outs seen.0 (at.long ∙ one) seen.2)
