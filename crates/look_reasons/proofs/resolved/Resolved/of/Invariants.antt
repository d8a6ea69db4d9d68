use Rattle.std.proofs.Common.{◌≡◌, length, vec_len}
use Rattle.look_reasons.proofs.resolved.Resolved.of.Given as goal

abbrev pub invariant-loop-span : goal.invariant-loop-span
invariant-loop-span l = vec_len l.resolved.used ≡ length l.tokens
