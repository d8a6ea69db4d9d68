use Rattle.phase_workers.specs.inner.Begun.{begun_cell}
use Rattle.phase_workers.proofs.MappedSoFar.{IsMapped}
use Rattle.phase_workers.proofs.begin.begin_nodes.Given as goal

abbrev pub invariant-loop-i : goal.invariant-loop-i
invariant-loop-i l = IsMapped begun_cell l.i l.fn.nodes l.nodes
