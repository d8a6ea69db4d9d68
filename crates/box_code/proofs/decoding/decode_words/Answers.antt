use Rattle.std.proofs.Common.{IsTrue, ◌∙◌, subst}
use Rattle.std.specs.Option.{is_some}
use Rattle.box_code.proofs.FiveBits.{read_by_five_bits}
use Rattle.box_code.proofs.decoding.decode_words.Goals as goal

pub decode_kind-requires-clause-there : goal.decode_kind-requires-clause-there
decode_kind-requires-clause-there c =
    subst (λ read. IsTrue (is_some read)) (read_by_five_bits c.args.words.now c.args.at c.requires.there).1 c.requires.there

pub decode_kind-requires-clause-within : goal.decode_kind-requires-clause-within
decode_kind-requires-clause-within c = (read_by_five_bits c.args.words.now c.args.at c.requires.there).0

pub returns : goal.returns
returns c = (read_by_five_bits c.args.words.now c.args.at c.requires.there).1 ∙ c.decode_kind.ensures
