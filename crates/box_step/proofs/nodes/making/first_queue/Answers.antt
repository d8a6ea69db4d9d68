use Rattle.box_step.proofs.nodes_lemmas.FirstCells.{small_of_bare}
use Rattle.box_step.proofs.nodes.making.first_queue.Goals as goal

pub make-requires-in-Some-clause-small : goal.make-requires-in-Some-clause-small
make-requires-in-Some-clause-small c = small_of_bare c.requires.0 c.args.core.now c.requires.1 c.in-Some.ensures.1.0 c.in-Some.wire.now c.in-Some.ensures.1.1
