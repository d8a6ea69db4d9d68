use Rattle.std.proofs.Common.{◌≡◌, ◌≤◌, ◌^◌, length}
use Rattle.std.specs.Str.Parse.{digits_value, digits_value_after}
use Rattle.hume_text.specs.Read.{is_digit, front, behind}
use Rattle.hume_text.specs.inner.Tokens.{capped}
use Rattle.hume_text.proofs.tokens.take_digits.Given as goal

abbrev pub invariant-loop-byte : goal.invariant-loop-byte
invariant-loop-byte l = record {
  small : l.value ≤ 2 ^ 64;
  value : capped (digits_value_after 10 l.value (front is_digit l.rest)) ≡ capped (digits_value 10 (front is_digit l.bytes));
  rest : behind is_digit l.rest ≡ behind is_digit l.bytes;
}

abbrev pub decreases-loop-byte : goal.decreases-loop-byte
decreases-loop-byte l = length l.rest
