use Rattle.c_analysis.specs.Targets.{target}
use Rattle.c_of.proofs.PartSteps.{box_absent, box_present}
use Rattle.c_of.proofs.boxes.add_box.Goals as goal

pub returns-in-None : goal.returns-in-None
returns-in-None c = box_absent (target c.args.s) c.args.number c.args.b.now c.args.trees.now c.args.place c.args.items.now c.in-None.ensures.lookup.3
