use Rattle.box_step.proofs.nodes_lemmas.FirstCells.{if_made}
use Rattle.box_step.proofs.nodes.making.make_kind.Goals as goal

pub returns-in-Some-Rules : goal.returns-in-Some-Rules
returns-in-Some-Rules c = if_made c.make_box.result (λ kind made opening opens begins. made opening c.args.span opens begins) c.make_box.ensures

pub returns-in-Some-From : goal.returns-in-Some-From
returns-in-Some-From c = if_made c.make_queue.result (λ kind made opening opens begins. made opening c.args.program opens begins) c.make_queue.ensures

pub returns-in-Some-To : goal.returns-in-Some-To
returns-in-Some-To c = if_made c.make_log.result (λ kind made opening opens begins. made opening c.args.program opens begins) c.make_log.ensures
