use Rattle.std.proofs.Common.{◌≡◌, ℕ, ◌<◌, false}
use Rattle.look_cores.specs.Raised.{lets_out}
use Rattle.look_cores.proofs.raised.first_raised.Given as goal

abbrev pub invariant-loop-exn : goal.invariant-loop-exn
invariant-loop-exn l = (earlier : ℕ) → earlier < l.exn → lets_out l.core l.line l.culprit earlier ≡ false
