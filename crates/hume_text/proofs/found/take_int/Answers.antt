use Rattle.std.proofs.Common.{◌∙◌, ap, sym}
use Rattle.hume_text.specs.inner.Readers.{int_in, with_rest}
use Rattle.hume_text.proofs.FoundWords.{numbered, int_next}
use Rattle.hume_text.proofs.found.take_int.Goals as goal

pub returns-in_default : goal.returns-in_default
returns-in_default c = int_next c.args.bits c.args.line.now ∙ ap (numbered (int_in c.args.bits)) c.in_default.ensures

pub returns-in-None : goal.returns-in-None
returns-in-None c =
    int_next c.args.bits c.args.line.now ∙ ap (numbered (int_in c.args.bits)) c.in-Some.ensures
    ∙ ap (λ o. with_rest o c.in-Some.rest.now) (sym c.int_word.ensures ∙ c.in-None.is)

pub returns-in-Some-int_word : goal.returns-in-Some-int_word
returns-in-Some-int_word c =
    int_next c.args.bits c.args.line.now ∙ ap (numbered (int_in c.args.bits)) c.in-Some.ensures
    ∙ ap (λ o. with_rest o c.in-Some.rest.now) (sym c.int_word.ensures ∙ c.in-Some-int_word.is)
