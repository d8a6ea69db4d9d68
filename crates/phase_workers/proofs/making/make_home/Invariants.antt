use Rattle.phase_workers.specs.inner.Making.{AreFirstWires}
use Rattle.phase_workers.proofs.making.make_home.Given as goal

abbrev pub invariant-loop-w : goal.invariant-loop-w
invariant-loop-w l = AreFirstWires l.core l.w l.home.items
