use Rattle.std.proofs.Common.{refl, ap, sym, ◌∙◌}
use Rattle.box_code.specs.Reading.{instr_at}
use Rattle.box_code.proofs.ReadBack.{read_there, read_parts}
use Rattle.box_code.proofs.decoding.decode.Goals as goal

pub decode_words-requires-clause-there : goal.decode_words-requires-clause-there
decode_words-requires-clause-there c =
    let stands = c.requires in
    rw (c.words.ensures.same, read_there c.args.code.now.words c.args.at stands.0 stands.1 stands.2) refl

pub returns : goal.returns
returns c = λ instr next stands.
    read_parts _ _ _ _ (sym (read_there c.args.code.now.words c.args.at instr next stands) ∙ ap (λ words. instr_at words c.args.at) (sym c.words.ensures.same) ∙ c.decode_words.ensures)
