use Rattle.std.proofs.Common.{length, map, ap, ◌∙◌, subst}
use Rattle.std.specs.Option.{is_some}
use Rattle.std.proofs.lemmas.List.{length-map}
use Rattle.box_heap.specs.Outputs.{OutputView}
use Rattle.wire_cells.specs.Homes.{AreAtHome}
use Rattle.match_rules.specs.Outputs.{FitCells}
use Rattle.box_step.specs.nodes.Sides.{ticked}
use Rattle.box_step.proofs.PendingWords.{same_words}
use Rattle.box_step.proofs.nodes_lemmas.NoOutputs.{nothing_asserted, nothing_forgotten}
use Rattle.box_step.proofs.nodes.asserting.assert_pending.Goals as goal

pub returns-in_default-clause-compiled : goal.returns-in_default-clause-compiled
returns-in_default-clause-compiled c = λ outs at. nothing_forgotten c.args.compiled.now (ap is_some c.in_default.ensures) outs

pub returns-in_default-clause-outs : goal.returns-in_default-clause-outs
returns-in_default-clause-outs c = λ outs at.
    subst (AreAtHome c.args.side.now c.tick_all.new.home) (ap (map ticked) (nothing_asserted c.args.compiled.now (ap is_some c.in_default.ensures) outs))
    (c.tick_all.ensures.cells outs at)

pub assert_outputs-requires-clause-long : goal.assert_outputs-requires-clause-long
assert_outputs-requires-clause-long c =
    c.requires.long ∙ ap (λ sizes. length sizes) c.in-Some.ensures.1 ∙ length-map c.in-Some.outputs.now (λ (output : OutputView). output.size)

pub assert_outputs-requires-clause-fit : goal.assert_outputs-requires-clause-fit
assert_outputs-requires-clause-fit c = λ outs at.
    subst (λ words. FitCells words 0 outs) (same_words c.args.compiled.now c.in-Some.outputs.now c.in-Some.ensures.0) (c.requires.fit outs at)
