use Rattle.wiring_check.specs.inner.Slots.{AreFirst}
use Rattle.wiring_check.proofs.first_wires.first_wires.Given as goal

abbrev pub invariant-loop-w : goal.invariant-loop-w
invariant-loop-w l = AreFirst l.core l.side l.w l.slots
