use Rattle.std.proofs.Common.{◌≡◌, ◌∙◌, [], ◌++◌, ap, sym}
use Rattle.std.proofs.lemmas.Result.{IfOk-weaker}
use Rattle.hume_base.specs.declared.types.Value.{Value}
use Rattle.hume_base.proofs.WordsTell.{words_tell}
use Rattle.hume_model.specs.Reading.{AreWordsOf}
use Rattle.wire_cells.proofs.laws.value_of_undoes_flatten.Goals as goal

pub value_of-requires-clause-words : goal.value_of-requires-clause-words
value_of-requires-clause-words c = (c.args.value.now, (c.requires.value, sym c.flatten.ensures))

pub returns : goal.returns
returns c =
    let types = c.args.types.now in
    let ty = c.args.ty.now in
    let value = c.args.value.now in
    IfOk-weaker c.value_of.result (AreWordsOf types ty c.flatten.new.into) (λ (read : Value). read ≡ value)
    (λ read words. (words_tell types ty read value [] [] words.0 c.requires.value (ap (λ ws. ws ++ []) (words.1 ∙ c.flatten.ensures))).0) c.value_of.ensures
