use Rattle.std.proofs.Common.{◌≡◌, ◌+◌, ◌<◌, ◌^◌, ℕ, List, true, length, map, get_or, Some, refl, subst, arith}
use Rattle.std.proofs.lemmas.Option.{slice_get-get_or, slice_get_within, get_or_from_slice_get}
use Rattle.wire_cells.specs.Cells.{CellView}
use Rattle.match_rules.specs.Outputs.{has_room_for, cell_with, cells_with}
use Rattle.box_step.specs.nodes.Sides.{ticked}
use Rattle.box_step.specs.inner.Buffers.{words_at}
use Rattle.box_step.proofs.nodes_lemmas.CellLoops.{ArePut, early_here, room_here, fit_here, one_put, all_put}
use Rattle.box_step.proofs.nodes_lemmas.HomeCells.{none_led, one_led, all_led, cell_led}
use Rattle.box_step.proofs.nodes.asserting.put_outputs.Goals as goal

pub loop-k-init : goal.loop-k-init
loop-k-init c =
    none_led c.args.side.now (ArePut (words_at c.args.outputs.now) 0) c.args.home.now
    (λ outs at. record {
      done = refl;
      early = λ k cell later found. c.requires.early outs at k cell found;
      room = c.requires.room outs at;
      fit = c.requires.fit outs at;
    })

pub put_at-requires-clause-cell : goal.put_at-requires-clause-cell
put_at-requires-clause-cell c =
    let k = c.loop-k.k in
    let words = words_at c.args.outputs.now in
    let w = get_or c.args.side.now k 0 in
    let here = slice_get-get_or c.args.side.now k 0 c.loop-k-test.true in
    let at = cell_led c.args.side.now (ArePut words k) c.args.home.now c.loop-k.home k w here c.requires.home c.loop-k.invariant in
    let cell = at.cell in
    let less = slice_get_within at.after k cell at.found in
    let is = get_or_from_slice_get at.after k cell cell at.found in (
      cell,
      at.there,
      subst (λ (x : CellView). x.time < 2 ^ 40) is (early_here words k at.before at.after cell less at.done),
      subst (λ x. has_room_for (words k) x ≡ true) is (room_here words k at.before at.after cell less at.done),
      subst (λ (x : CellView). (ws : List ℕ) → words k ≡ Some ws → length ws ≡ x.size) is (fit_here words k at.before at.after cell less at.done),
    )

pub loop-k-preserved : goal.loop-k-preserved
loop-k-preserved c =
    let k = c.loop-k.k in
    let words = words_at c.args.outputs.now in
    let here = slice_get-get_or c.args.side.now k 0 c.loop-k-test.true in
    one_led c.args.side.now c.requires.apart (ArePut words k) (ArePut words (k + 1)) c.args.home.now c.loop-k.home c.put_at.new.home k
    (get_or c.args.side.now k 0) (λ cell. ticked (cell_with (words k) cell)) here c.requires.home c.loop-k.invariant c.put_at.ensures
    (λ before after d at less put. one_put words k before after d less put (ticked (cell_with (words k) (get_or after k d))) refl)

pub returns-clause-others : goal.returns-clause-others
returns-clause-others c = c.loop-k.invariant.kept

pub returns-clause-outs : goal.returns-clause-outs
returns-clause-outs c =
    let words = words_at c.args.outputs.now in
    all_led c.args.side.now (ArePut words c.loop-k.k) (λ cells. map ticked (cells_with words 0 cells)) c.args.home.now c.loop-k.home c.loop-k.invariant
    (λ before after long put. all_put words c.loop-k.k before after (omega (arith, long)) put)
