use Rattle.box_code.specs.Machine.{op_of}
use Rattle.std.proofs.Common.{refl, ap, ◌∙◌}
use Rattle.hume_base.specs.declared.types.Value.{Word}
use Rattle.hume_model.specs.declared.outcome.Outcome.TheVariants.{Gives}
use Rattle.box_code.specs.declared.instr.Instr.TheVariants as instr
use Rattle.box_machine.proofs.Operating.{operands_there, two_give, truth_word}
use Rattle.box_machine.proofs.operations.compare.Goals as goal

pub returns : goal.returns
returns c = λ setting.
    two_give setting (instr.Compare c.args.comparison c.args.ty)
    (op_of c.args.comparison) c.args.ty c.args.registers c.put_at.result c.args.words.now c.put_at.new.words c.requires.top c.word_at-left.result
    c.word_at-right.result
    (operands_there c.requires.can.0 (op_of c.args.comparison) c.args.ty 2 c.args.registers c.args.words.now c.requires.can.1.objects c.requires.can.1.room
    c.requires.can.1.fits c.requires.top)
    c.word_at-left.ensures c.word_at-right.ensures (λ m. refl) c.from.result (c.compared.ensures
    ∙ ap (λ w. Gives (Word w)) (truth_word c.compared.result c.from.result c.from.ensures)) c.put_at.ensures
