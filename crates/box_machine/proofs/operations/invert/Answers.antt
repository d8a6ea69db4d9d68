use Rattle.box_code.specs.declared.instr.Scalar.TheVariants as scalar
use Rattle.std.proofs.Common.{◌==◌, refl, ap}
use Rattle.hume_base.specs.declared.types.Value.{Word}
use Rattle.hume_model.specs.declared.core_tree.Op.TheVariants as op
use Rattle.hume_model.specs.declared.outcome.Outcome.TheVariants.{Gives}
use Rattle.box_code.specs.declared.instr.Instr.TheVariants as instr
use Rattle.box_machine.proofs.Operating.{operands_there, one_gives, truth_word}
use Rattle.box_machine.proofs.operations.invert.Goals as goal

pub returns : goal.returns
returns c = λ setting.
    one_gives setting instr.Not op.Not scalar.Bool c.args.registers c.put_at.result c.args.words.now c.put_at.new.words c.requires.top c.word_at-operand.result
    (operands_there c.requires.can.0 op.Not scalar.Bool 1 c.args.registers c.args.words.now c.requires.can.1.objects c.requires.can.1.room c.requires.can.1.fits
    c.requires.top)
    c.word_at-operand.ensures (λ m. refl) c.from.result (ap (λ w. Gives (Word w)) (truth_word
    (c.word_at-operand.result == 0) c.from.result c.from.ensures)) c.put_at.ensures
