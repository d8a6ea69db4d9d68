use Rattle.std.proofs.Common.{refl}
use Rattle.hume_model.specs.declared.core_tree.Op.TheVariants as op
use Rattle.box_code.specs.declared.instr.Instr.TheVariants as instr
use Rattle.box_machine.proofs.Operating.{operands_there, two_give}
use Rattle.box_machine.proofs.operations.multiply.Goals as goal

pub returns : goal.returns
returns c = λ setting.
    two_give setting (instr.Mul c.args.ty) op.Mul c.args.ty c.args.registers c.put_at.result c.args.words.now c.put_at.new.words c.requires.top c.word_at-left.result
    c.word_at-right.result
    (operands_there c.requires.can.0 op.Mul c.args.ty 2 c.args.registers c.args.words.now c.requires.can.1.objects c.requires.can.1.room c.requires.can.1.fits
    c.requires.top)
    c.word_at-left.ensures c.word_at-right.ensures (λ m. refl) c.product.result c.product.ensures c.put_at.ensures
