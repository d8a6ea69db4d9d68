use Rattle.std.proofs.Common.{refl}
use Rattle.hume_model.specs.declared.core_tree.Op.TheVariants as op
use Rattle.box_code.specs.declared.instr.Instr.TheVariants as instr
use Rattle.box_machine.proofs.Operating.{operands_there, one_gives}
use Rattle.box_machine.proofs.operations.negate.Goals as goal

pub returns : goal.returns
returns c = λ setting.
    one_gives setting (instr.Neg c.args.ty) op.Neg c.args.ty c.args.registers c.put_at.result c.args.words.now c.put_at.new.words c.requires.top
    c.word_at-operand.result
    (operands_there c.requires.can.0 op.Neg c.args.ty 1 c.args.registers c.args.words.now c.requires.can.1.objects c.requires.can.1.room c.requires.can.1.fits
    c.requires.top)
    c.word_at-operand.ensures (λ m. refl) c.negated.result c.negated.ensures c.put_at.ensures
