use Rattle.parse_expressions.proofs.TreeSteps.{room_same, some_room}
use Rattle.parse_expressions.proofs.trees.Tree.leaves_room.Goals as goal

pub returns-clause-is : goal.returns-clause-is
returns-clause-is c = room_same _ _ _ c.args.self.now.counts c.requires

pub returns-clause-some : goal.returns-clause-some
returns-clause-some c = some_room _ _ c.args.self.now.exp c.args.self.now.counts
