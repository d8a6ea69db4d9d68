use Rattle.box_step.proofs.nodes_lemmas.Begun.{begun_node}
use Rattle.box_step.proofs.nodes.cell.BoxCell.begin.Goals as goal

pub returns-clause-right : goal.returns-clause-right
returns-clause-right c = λ opening right. begun_node opening c.args.self.now.time c.requires c.args.self.now.number c.args.self.now.kind right
