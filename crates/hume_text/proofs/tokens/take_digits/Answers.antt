use Rattle.std.proofs.Common.{◌≡◌, ◌∷◌, ◌∙◌, ◌-◌, ◌*◌, ◌+◌, true, ap, sym, arith, rules}
use Rattle.std.specs.Str.Parse.{digits_value_after}
use Rattle.hume_text.specs.Read.{is_digit, front, behind}
use Rattle.hume_text.specs.inner.Tokens.{capped}
use Rattle.hume_text.proofs.Fronts.{digits_step, behind_digit}
use Rattle.hume_text.proofs.tokens.take_digits.Goals as goal

pub loop-byte-preserved : goal.loop-byte-preserved
loop-byte-preserved c =
    let digit : is_digit c.in-Some.byte.now ≡ true = search rules in
    let split : c.loop-byte.rest.now ≡ c.in-Some.byte.now ∷ c.in-Some.others.now = search rules in
    let next : c.min-value.result ≡ capped (c.loop-byte.value * 10 + (c.in-Some.byte.now - 48)) = search rules in
    record {
      small = omega (arith, next);
      value = ap (λ n. capped (digits_value_after 10 n (front is_digit c.in-Some.others.now))) next
          ∙ digits_step c.loop-byte.value c.in-Some.byte.now c.in-Some.others.now digit
          ∙ ap (λ bytes. capped (digits_value_after 10 c.loop-byte.value (front is_digit bytes))) (sym split)
          ∙ c.loop-byte.invariant.value;
      rest = sym (behind_digit c.in-Some.byte.now c.in-Some.others.now digit) ∙ ap (behind is_digit) (sym split) ∙ c.loop-byte.invariant.rest;
    }
