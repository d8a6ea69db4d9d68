use Rattle.box_step.proofs.nodes_lemmas.CellLoops.{AreTicking}
use Rattle.box_step.proofs.nodes_lemmas.HomeCells.{AreLed}
use Rattle.box_step.proofs.nodes.ticking.tick_all.Given as goal

abbrev pub invariant-loop-k : goal.invariant-loop-k
invariant-loop-k l = AreLed l.side (AreTicking l.k) l.fn.home l.home
