use Rattle.std.proofs.Common.{◌≡◌, ℕ, ◌<◌, true, false}
use Rattle.hume_exceptions.specs.Sets.{has}
use Rattle.hume_exceptions.proofs.handlers.is_beyond.Given as goal

abbrev pub invariant-loop-exn : goal.invariant-loop-exn
invariant-loop-exn l = (exn : ℕ) → exn < l.exn → has l.set exn ≡ true → has l.allowed exn ≡ false → ⊥
