use Rattle.std.proofs.Common.{◌∙◌, ap, sym}
use Rattle.hume_text.specs.inner.Readers.{nat_in, with_rest}
use Rattle.hume_text.proofs.FoundWords.{numbered, nat_next}
use Rattle.hume_text.proofs.found.take_nat.Goals as goal

pub returns-in_default : goal.returns-in_default
returns-in_default c = nat_next c.args.bits c.args.line.now ∙ ap (numbered (nat_in c.args.bits)) c.in_default.ensures

pub returns-in-None : goal.returns-in-None
returns-in-None c =
    nat_next c.args.bits c.args.line.now ∙ ap (numbered (nat_in c.args.bits)) c.in-Some.ensures
    ∙ ap (λ o. with_rest o c.in-Some.rest.now) (sym c.nat_word.ensures ∙ c.in-None.is)

pub returns-in-Some-nat_word : goal.returns-in-Some-nat_word
returns-in-Some-nat_word c =
    nat_next c.args.bits c.args.line.now ∙ ap (numbered (nat_in c.args.bits)) c.in-Some.ensures
    ∙ ap (λ o. with_rest o c.in-Some.rest.now) (sym c.nat_word.ensures ∙ c.in-Some-nat_word.is)
