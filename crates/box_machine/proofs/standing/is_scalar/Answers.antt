use Rattle.std.proofs.Common.{length, ap, ◌∙◌}
use Rattle.box_code.specs.FlatObjects.{flat_at, named_at}
use Rattle.box_machine.proofs.WritingParts.{flat_bool, flat_char, flat_int, flat_nat}
use Rattle.box_machine.proofs.standing.is_scalar.Goals as goal

pub returns-in-Bool : goal.returns-in-Bool
returns-in-Bool c = λ is types objects word.
    ap (λ ty. flat_at types objects ty word) c.in-Bool.is ∙ flat_bool objects (named_at types objects (length types.sums)) word

pub returns-in-Char : goal.returns-in-Char
returns-in-Char c = λ is types objects word.
    ap (λ ty. flat_at types objects ty word) c.in-Char.is ∙ flat_char objects (named_at types objects (length types.sums)) word

pub returns-in-Int : goal.returns-in-Int
returns-in-Int c = λ is types objects word.
    ap (λ ty. flat_at types objects ty word) c.in-Int.is ∙ flat_int objects (named_at types objects (length types.sums)) c.in-Int.field-0 word

pub returns-in-Nat : goal.returns-in-Nat
returns-in-Nat c = λ is types objects word.
    ap (λ ty. flat_at types objects ty word) c.in-Nat.is ∙ flat_nat objects (named_at types objects (length types.sums)) c.in-Nat.field-0 word
