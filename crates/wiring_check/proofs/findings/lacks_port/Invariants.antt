use Rattle.std.proofs.Common.{◌≡◌, ℕ, ◌<◌, None}
use Rattle.wiring_check.specs.inner.Slots.{slot}
use Rattle.wiring_check.proofs.findings.lacks_port.Given as goal

abbrev pub invariant-loop-port : goal.invariant-loop-port
invariant-loop-port l = (port : ℕ) → port < l.port → slot l.slots l.n port ≡ None → ⊥
