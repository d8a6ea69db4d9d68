use Rattle.std.proofs.Common.{◌∙◌, sym, subst}
use Rattle.box_code.specs.declared.instr.Instr.{Instr}
use Rattle.box_machine.specs.inner.Stepping.{CanDoOn, DoesOn, IsTurn}
use Rattle.box_machine.proofs.Effects.{does_on, return_can}
use Rattle.box_machine.proofs.turn.turn.Goals as goal

pub returns-in-Push : goal.returns-in-Push
returns-in-Push c = λ setting of code.
    subst (λ (instr : Instr). DoesOn setting instr c.args.registers c.args.words.now c.args.heap.now c.push_word.result c.push_word.new.words c.args.heap.now)
    (sym c.in-Push.is)
    (does_on setting _ c.args.registers c.push_word.result c.args.words.now c.push_word.new.words c.args.heap.now c.requires.held (c.push_word.ensures setting))

pub returns-in-Load : goal.returns-in-Load
returns-in-Load c = λ setting of code.
    subst (λ (instr : Instr). DoesOn setting instr c.args.registers c.args.words.now c.args.heap.now c.load.result c.load.new.words c.args.heap.now) (sym c.in-Load.is)
    (does_on setting _ c.args.registers c.load.result c.args.words.now c.load.new.words c.args.heap.now c.requires.held (c.load.ensures setting))

pub returns-in-Make : goal.returns-in-Make
returns-in-Make c = λ setting of code.
    subst (λ (instr : Instr). DoesOn setting instr c.args.registers c.args.words.now c.args.heap.now c.make.result c.make.new.words c.make.new.heap) (sym c.in-Make.is)
    (c.make.ensures setting)

pub returns-in-Add : goal.returns-in-Add
returns-in-Add c = λ setting of code.
    subst (λ (instr : Instr). DoesOn setting instr c.args.registers c.args.words.now c.args.heap.now c.add.result c.add.new.words c.args.heap.now) (sym c.in-Add.is)
    (does_on setting _ c.args.registers c.add.result c.args.words.now c.add.new.words c.args.heap.now c.requires.held (c.add.ensures setting))

pub returns-in-Sub : goal.returns-in-Sub
returns-in-Sub c = λ setting of code.
    subst (λ (instr : Instr). DoesOn setting instr c.args.registers c.args.words.now c.args.heap.now c.subtract.result c.subtract.new.words c.args.heap.now)
    (sym c.in-Sub.is)
    (does_on setting _ c.args.registers c.subtract.result c.args.words.now c.subtract.new.words c.args.heap.now c.requires.held (c.subtract.ensures setting))

pub returns-in-Mul : goal.returns-in-Mul
returns-in-Mul c = λ setting of code.
    subst (λ (instr : Instr). DoesOn setting instr c.args.registers c.args.words.now c.args.heap.now c.multiply.result c.multiply.new.words c.args.heap.now)
    (sym c.in-Mul.is)
    (does_on setting _ c.args.registers c.multiply.result c.args.words.now c.multiply.new.words c.args.heap.now c.requires.held (c.multiply.ensures setting))

pub returns-in-Div : goal.returns-in-Div
returns-in-Div c = λ setting of code.
    subst (λ (instr : Instr). DoesOn setting instr c.args.registers c.args.words.now c.args.heap.now c.divide.result c.divide.new.words c.args.heap.now)
    (sym c.in-Div.is)
    (does_on setting _ c.args.registers c.divide.result c.args.words.now c.divide.new.words c.args.heap.now c.requires.held (c.divide.ensures setting of))

pub returns-in-Mod : goal.returns-in-Mod
returns-in-Mod c = λ setting of code.
    subst (λ (instr : Instr). DoesOn setting instr c.args.registers c.args.words.now c.args.heap.now c.modulo.result c.modulo.new.words c.args.heap.now)
    (sym c.in-Mod.is)
    (does_on setting _ c.args.registers c.modulo.result c.args.words.now c.modulo.new.words c.args.heap.now c.requires.held (c.modulo.ensures setting of))

pub returns-in-Neg : goal.returns-in-Neg
returns-in-Neg c = λ setting of code.
    subst (λ (instr : Instr). DoesOn setting instr c.args.registers c.args.words.now c.args.heap.now c.negate.result c.negate.new.words c.args.heap.now)
    (sym c.in-Neg.is)
    (does_on setting _ c.args.registers c.negate.result c.args.words.now c.negate.new.words c.args.heap.now c.requires.held (c.negate.ensures setting))

pub returns-in-Not : goal.returns-in-Not
returns-in-Not c = λ setting of code.
    subst (λ (instr : Instr). DoesOn setting instr c.args.registers c.args.words.now c.args.heap.now c.invert.result c.invert.new.words c.args.heap.now)
    (sym c.in-Not.is)
    (does_on setting _ c.args.registers c.invert.result c.args.words.now c.invert.new.words c.args.heap.now c.requires.held (c.invert.ensures setting))

pub returns-in-Convert : goal.returns-in-Convert
returns-in-Convert c = λ setting of code.
    subst (λ (instr : Instr). DoesOn setting instr c.args.registers c.args.words.now c.args.heap.now c.convert.result c.convert.new.words c.args.heap.now)
    (sym c.in-Convert.is)
    (does_on setting _ c.args.registers c.convert.result c.args.words.now c.convert.new.words c.args.heap.now c.requires.held (c.convert.ensures setting))

pub returns-in-Compare : goal.returns-in-Compare
returns-in-Compare c = λ setting of code.
    subst (λ (instr : Instr). DoesOn setting instr c.args.registers c.args.words.now c.args.heap.now c.compare.result c.compare.new.words c.args.heap.now)
    (sym c.in-Compare.is)
    (does_on setting _ c.args.registers c.compare.result c.args.words.now c.compare.new.words c.args.heap.now c.requires.held (c.compare.ensures setting))

pub returns-in-Update : goal.returns-in-Update
returns-in-Update c = λ setting of code.
    subst (λ (instr : Instr). DoesOn setting instr c.args.registers c.args.words.now c.args.heap.now c.update.result c.update.new.words c.update.new.heap)
    (sym c.in-Update.is)
    (c.update.ensures setting of)

pub returns-in-JumpFalse : goal.returns-in-JumpFalse
returns-in-JumpFalse c = λ setting of code.
    subst (λ (instr : Instr). IsTurn setting instr c.args.registers c.args.words.now c.args.heap.now c.jump_false.result c.args.words.now c.args.heap.now)
    (sym c.in-JumpFalse.is)
    (c.jump_false.ensures setting code)

pub returns-in-MatchWord : goal.returns-in-MatchWord
returns-in-MatchWord c = λ setting of code.
    subst (λ (instr : Instr). IsTurn setting instr c.args.registers c.args.words.now c.args.heap.now c.match_word.result c.args.words.now c.args.heap.now)
    (sym c.in-MatchWord.is)
    (c.match_word.ensures setting code)

pub returns-in-MatchTag : goal.returns-in-MatchTag
returns-in-MatchTag c = λ setting of code.
    subst (λ (instr : Instr). IsTurn setting instr c.args.registers c.args.words.now c.args.heap.now c.match_tag.result c.args.words.now c.args.heap.now)
    (sym c.in-MatchTag.is)
    (c.match_tag.ensures setting code)

pub returns-in-Field : goal.returns-in-Field
returns-in-Field c = λ setting of code.
    subst (λ (instr : Instr). DoesOn setting instr c.args.registers c.args.words.now c.args.heap.now c.field.result c.field.new.words c.args.heap.now)
    (sym c.in-Field.is)
    (c.field.ensures setting code)

pub returns-in-Slide : goal.returns-in-Slide
returns-in-Slide c = λ setting of code.
    subst (λ (instr : Instr). DoesOn setting instr c.args.registers c.args.words.now c.args.heap.now c.slide.result c.slide.new.words c.args.heap.now)
    (sym c.in-Slide.is)
    (does_on setting _ c.args.registers c.slide.result c.args.words.now c.slide.new.words c.args.heap.now c.requires.held (c.slide.ensures setting))

pub returns-in-Call : goal.returns-in-Call
returns-in-Call c = λ setting of code.
    subst (λ (instr : Instr). DoesOn setting instr c.args.registers c.args.words.now c.args.heap.now c.call.result c.call.new.words c.args.heap.now) (sym c.in-Call.is)
    (does_on setting _ c.args.registers c.call.result c.args.words.now c.call.new.words c.args.heap.now c.requires.held (c.call.ensures setting))

pub returns-in-Return : goal.returns-in-Return
returns-in-Return c = λ setting of code.
    let able = c.requires.can in
    subst (λ (instr : Instr). DoesOn setting instr c.args.registers c.args.words.now c.args.heap.now c.return_with.result c.return_with.new.words c.args.heap.now)
    (sym c.in-Return.is)
    (does_on setting _ c.args.registers c.return_with.result c.args.words.now c.return_with.new.words c.args.heap.now c.requires.held (c.return_with.ensures setting
    (return_can able.0 setting c.in-Return.count c.in-Return.variables c.args.registers c.args.words.now c.args.heap.now (able.1 ∙ sym code)
    (subst (λ (instr : Instr). CanDoOn able.0 instr c.args.registers c.args.words.now c.args.heap.now) c.in-Return.is able.2))))

pub returns-in-Raise : goal.returns-in-Raise
returns-in-Raise c = λ setting of code.
    subst (λ (instr : Instr). DoesOn setting instr c.args.registers c.args.words.now c.args.heap.now c.raise.result c.raise.new.words c.args.heap.now)
    (sym c.in-Raise.is)
    (does_on setting _ c.args.registers c.raise.result c.args.words.now c.raise.new.words c.args.heap.now c.requires.held (c.raise.ensures setting of))
