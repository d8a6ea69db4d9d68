use Rattle.box_step.specs.inner.Buffers.{words_at}
use Rattle.box_step.proofs.nodes_lemmas.CellLoops.{ArePut}
use Rattle.box_step.proofs.nodes_lemmas.HomeCells.{AreLed}
use Rattle.box_step.proofs.nodes.asserting.put_outputs.Given as goal

abbrev pub invariant-loop-k : goal.invariant-loop-k
invariant-loop-k l = AreLed l.side (ArePut (words_at l.outputs) l.k) l.fn.home l.home
