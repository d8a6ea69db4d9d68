use Rattle.std.proofs.Common.{◌≡◌, drop}
use Rattle.box_compile.specs.Programs.{boxes_before}
use Rattle.phase_workers.specs.inner.Making.{AreFirstNodes}
use Rattle.phase_workers.proofs.making.make_nodes.Given as goal

abbrev pub invariant-loop-n : goal.invariant-loop-n
invariant-loop-n l = record {
  nodes : AreFirstNodes l.core l.span l.n l.nodes.items;
  rest : l.rest ≡ drop (boxes_before l.core l.n) l.fn.programs;
}
