use Rattle.phase_workers.specs.inner.Begun.{begun_wire}
use Rattle.phase_workers.proofs.MappedSoFar.{IsMapped}
use Rattle.phase_workers.proofs.begin.begin_wires.Given as goal

abbrev pub invariant-loop-i : goal.invariant-loop-i
invariant-loop-i l = IsMapped begun_wire l.i l.fn.home l.home
