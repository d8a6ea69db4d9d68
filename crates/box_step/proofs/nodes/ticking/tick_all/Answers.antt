use Rattle.std.proofs.Common.{◌+◌, map, get_or, refl, arith}
use Rattle.std.proofs.lemmas.Option.{slice_get-get_or}
use Rattle.box_step.specs.nodes.Sides.{ticked}
use Rattle.box_step.proofs.nodes_lemmas.CellLoops.{AreTicking, one_ticked, every_ticked}
use Rattle.box_step.proofs.nodes_lemmas.HomeCells.{none_led, one_led, all_led, cell_led}
use Rattle.box_step.proofs.nodes.ticking.tick_all.Goals as goal

pub loop-k-init : goal.loop-k-init
loop-k-init c =
    none_led c.args.side.now (AreTicking 0) c.args.home.now
    (λ cells at. record { done = refl; early = λ k cell later found. c.requires.early cells at k cell found })

pub tick_at-requires : goal.tick_at-requires
tick_at-requires c =
    let k = c.loop-k.k in
    let here = slice_get-get_or c.args.side.now k 0 c.loop-k-test.true in
    let cell = cell_led c.args.side.now (AreTicking k) c.args.home.now c.loop-k.home k (get_or c.args.side.now k 0) here c.requires.home c.loop-k.invariant in
    (cell.cell, cell.there, cell.done.early k cell.cell (omega arith) cell.found)

pub loop-k-preserved : goal.loop-k-preserved
loop-k-preserved c =
    let k = c.loop-k.k in
    let here = slice_get-get_or c.args.side.now k 0 c.loop-k-test.true in
    one_led c.args.side.now c.requires.apart (AreTicking k) (AreTicking (k + 1)) c.args.home.now c.loop-k.home c.tick_at.new.home k
    (get_or c.args.side.now k 0) ticked here c.requires.home c.loop-k.invariant c.tick_at.ensures
    (λ before after d at less ticking. one_ticked k before after d (ticked (get_or after k d)) less ticking refl)

pub returns-clause-others : goal.returns-clause-others
returns-clause-others c = c.loop-k.invariant.kept

pub returns-clause-cells : goal.returns-clause-cells
returns-clause-cells c =
    all_led c.args.side.now (AreTicking c.loop-k.k) (map ticked) c.args.home.now c.loop-k.home c.loop-k.invariant
    (λ before after long ticking. every_ticked c.loop-k.k before after (omega (arith, long)) ticking)
