use Rattle.std.proofs.Common.{◌≡◌, vec_len}
use Rattle.look_reasons.proofs.words.Words.of.Given as goal

abbrev pub invariant-loop-sum : goal.invariant-loop-sum
invariant-loop-sum l = vec_len l.sums ≡ l.sum-index
