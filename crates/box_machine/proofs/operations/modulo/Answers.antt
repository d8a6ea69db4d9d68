use Rattle.std.proofs.Common.{◌≡◌, refl, ap, arith, None}
use Rattle.hume_model.specs.declared.core_tree.Op.TheVariants as op
use Rattle.hume_model.specs.declared.outcome.Outcome.TheVariants.{Raises}
use Rattle.hume_model.specs.declared.exceptions.TheConstants.{DIV_ZERO}
use Rattle.hume_model.specs.Operations.{binary}
use Rattle.box_code.specs.declared.instr.Instr.TheVariants as instr
use Rattle.box_machine.specs.inner.Layers.{layer_of}
use Rattle.box_machine.proofs.Operating.{operands_there, two_give, two_raise}
use Rattle.box_machine.proofs.operations.modulo.Goals as goal

pub returns-then-right-eq0 : goal.returns-then-right-eq0
returns-then-right-eq0 c = λ setting of.
    let zero_is : c.word_at-right.result ≡ 0 = omega (arith, c.if-right-eq0.true) in
    let raises : binary op.Mod (layer_of c.args.ty) c.word_at-left.result c.word_at-right.result ≡ Raises DIV_ZERO None = ap (λ w. binary op.Mod
    (layer_of c.args.ty) c.word_at-left.result w) zero_is in
    two_raise setting (instr.Mod c.args.ty) op.Mod c.args.ty c.args.registers c.hand_over.result c.args.words.now c.hand_over.new.words c.requires.top
    c.word_at-left.result c.word_at-right.result
    (operands_there c.requires.can.0 op.Mod c.args.ty 2 c.args.registers c.args.words.now c.requires.can.1.objects c.requires.can.1.room c.requires.can.1.fits
    c.requires.top)
    c.word_at-left.ensures c.word_at-right.ensures (λ m. refl) c.args.program.now DIV_ZERO of raises c.hand_over.ensures

pub returns : goal.returns
returns c = λ setting of.
    two_give setting (instr.Mod c.args.ty) op.Mod c.args.ty c.args.registers c.put_at.result c.args.words.now c.put_at.new.words c.requires.top c.word_at-left.result
    c.word_at-right.result
    (operands_there c.requires.can.0 op.Mod c.args.ty 2 c.args.registers c.args.words.now c.requires.can.1.objects c.requires.can.1.room c.requires.can.1.fits
    c.requires.top)
    c.word_at-left.ensures c.word_at-right.ensures (λ m. refl) c.remainder.result c.remainder.ensures c.put_at.ensures
