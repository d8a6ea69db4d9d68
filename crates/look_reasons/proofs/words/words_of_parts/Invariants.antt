use Rattle.std.proofs.Common.{◌≡◌, vec_len}
use Rattle.look_reasons.proofs.words.words_of_parts.Given as goal

abbrev pub invariant-loop-span : goal.invariant-loop-span
invariant-loop-span l = vec_len l.parts ≡ l.span-index
