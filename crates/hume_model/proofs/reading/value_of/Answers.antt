use Rattle.std.proofs.Common.{◌≡◌, ◌∙◌, ℕ, List, [], ◌++◌, ap, sym, subst, length, append-nil}
use Rattle.hume_base.specs.declared.types.Value.{Value}
use Rattle.hume_base.specs.Flat.{flat}
use Rattle.hume_model.specs.Reading.{AreWordsOf}
use Rattle.hume_model.specs.Readers.{read_with, read_named}
use Rattle.hume_model.proofs.FrontReading.{value_read}
use Rattle.hume_model.proofs.reading.value_of.Goals as goal

pub returns : goal.returns
returns c =
    let types = c.args.types.now in
    let ty = c.args.ty.now in
    let given : (v : Value) × AreWordsOf types ty c.args.words.now v = c.requires.words in
    let words : c.args.words.now ≡ flat types ty given.0 ++ [] = sym given.1.1 ∙ sym (append-nil (flat types ty given.0)) in
    let front : read_with (read_named types (length types.sums)) ty c.args.words.now ≡ (given.0, []) =
    ap (read_with (read_named types (length types.sums)) ty) words ∙ value_read types c.requires.sizes c.requires.readable ty given.0 given.1.0 in
    let read : (c.in_ok-value.value, c.in_ok-value.field-0-1.now) ≡ read_with (read_named types (length types.sums)) ty c.args.words.now =
    rw (← c.len.ensures) c.in_ok-value.ensures in
    subst (AreWordsOf types ty c.args.words.now) (sym (ap (λ (p : Value × List ℕ). p.0) (read ∙ front))) given.1
