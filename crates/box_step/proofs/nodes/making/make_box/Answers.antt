use Rattle.std.proofs.Common.{sym, subst}
use Rattle.box_step.specs.nodes.Right.{IsRightBox}
use Rattle.box_step.proofs.nodes_lemmas.FirstCells.{first_forms, first_box}
use Rattle.box_step.proofs.nodes.making.make_box.Goals as goal

pub make-requires-clause-forms : goal.make-requires-clause-forms
make-requires-clause-forms c = first_forms c.requires.opens.0 c.args.core.now c.requires.opens.1 c.args.number c.args.b.now c.requires.there

pub returns : goal.returns
returns c = λ opening span opens begins.
    subst (IsRightBox opening c.args.number 0) (sym c.in_ok-new-in-Some.ensures.ok)
    (first_box opening c.args.core.now opens c.args.number span c.args.program begins c.in-Some.program c.in-Some.is c.args.b.now c.requires.there
    c.in_ok-compiled-in-Some.compiled c.in_ok-compiled-in-Some.ensures.at c.in_ok-compiled-in-Some.ensures.unused)
