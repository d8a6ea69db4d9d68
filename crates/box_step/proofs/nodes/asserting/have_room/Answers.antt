use Rattle.std.proofs.Common.{◌≡◌, get_or, Some, ap, sym, ◌∙◌, arith}
use Rattle.std.proofs.lemmas.Option.{slice_get-get_or}
use Rattle.wire_cells.proofs.AtHome.{cell_found}
use Rattle.match_rules.specs.Outputs.{has_room_for}
use Rattle.box_step.specs.inner.Buffers.{words_at}
use Rattle.box_step.proofs.nodes_lemmas.CellLoops.{no_room_here, room_goes_on, no_more_room}
use Rattle.box_step.proofs.nodes.asserting.have_room.Goals as goal

pub cell_at-requires : goal.cell_at-requires
cell_at-requires c =
    let k = c.loop-k.k in
    let here = slice_get-get_or c.args.side.now k 0 c.loop-k-test.true in
    let some = c.requires.home in
    let seen = cell_found c.args.side.now c.args.home.now some.0 k (get_or c.args.side.now k 0) some.1 here in
    (seen.0, seen.1)

pub returns-then-not-has_room : goal.returns-then-not-has_room
returns-then-not-has_room c = λ outs at.
    let k = c.loop-k.k in
    let words = words_at c.args.outputs.now in
    let here = slice_get-get_or c.args.side.now k 0 c.loop-k-test.true in
    let seen = cell_found c.args.side.now c.args.home.now outs k (get_or c.args.side.now k 0) at here in
    let same : seen.0 ≡ c.cell_at.result.now = (let both : Some (Some seen.0) ≡ Some (Some c.cell_at.result.now) = sym seen.1 ∙ c.cell_at.ensures in cc) in
    sym (no_room_here words outs k seen.0 seen.2 (ap (has_room_for (words k)) same ∙ sym c.has_room.ensures ∙ c.if-not-has_room.true))
    ∙ c.loop-k.invariant outs at

pub loop-k-preserved : goal.loop-k-preserved
loop-k-preserved c = λ outs at.
    let k = c.loop-k.k in
    let words = words_at c.args.outputs.now in
    let here = slice_get-get_or c.args.side.now k 0 c.loop-k-test.true in
    let seen = cell_found c.args.side.now c.args.home.now outs k (get_or c.args.side.now k 0) at here in
    let same : seen.0 ≡ c.cell_at.result.now = (let both : Some (Some seen.0) ≡ Some (Some c.cell_at.result.now) = sym seen.1 ∙ c.cell_at.ensures in cc) in
    sym (room_goes_on words outs k seen.0 seen.2 (ap (has_room_for (words k)) same ∙ sym c.has_room.ensures ∙ c.if-not-has_room.false))
    ∙ c.loop-k.invariant outs at

pub returns : goal.returns
returns c = λ outs at.
    let long = at.long in
    sym (no_more_room (words_at c.args.outputs.now) outs c.loop-k.k (omega (arith, long))) ∙ c.loop-k.invariant outs at
