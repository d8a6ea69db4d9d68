use Rattle.std.proofs.Common.{◌≡◌, ◌<◌, ◌^◌, drop}
use Rattle.hume_lex.specs.Spelling.{value_of}
use Rattle.hume_lex.proofs.Values.{value_after}
use Rattle.hume_lex.proofs.bytes.number.Given as goal

abbrev pub invariant-loop-digit : goal.invariant-loop-digit
invariant-loop-digit l = record {
  value : value_after l.n (drop l.digit-index l.digits) ≡ value_of l.digits;
  fits : l.n < 2 ^ 64;
}
