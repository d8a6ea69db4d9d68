use Rattle.std.proofs.Common.{map, subst}
use Rattle.wire_cells.proofs.AtHome.{same_cells}
use Rattle.box_step.specs.nodes.Right.{AreRightWires}
use Rattle.box_step.specs.nodes.Sides.{ticked}
use Rattle.box_step.proofs.nodes_lemmas.Executed.{its_box, before_box, box_forms, box_is_at, box_next, box_wires}
use Rattle.box_step.proofs.nodes.executing.execute_box.Goals as goal

pub execute-ran-requires-clause-at : goal.execute-ran-requires-clause-at
execute-ran-requires-clause-at c =
    let cells = c.requires.can.0 in
    let opening = c.requires.can.2 in
    let time = c.requires.can.3 in
    let can = c.requires.can.4 in
    let right = c.requires.can.5 in
    let bare = c.args.core.now in
    let n = c.args.number in
    let box = c.args.compiled.now in (
      opening.core,
      its_box opening bare n time cells box can right,
      before_box opening bare n time cells box can right,
      cells,
      c.requires.can.1,
      box_forms opening bare n time cells box can right c.the_box-b.result.now c.the_box-b.ensures,
      box_is_at opening bare n time cells box can right,
    )

pub returns-clause-rest : goal.returns-clause-rest
returns-clause-rest c = λ ins at.
    let cells = c.requires.can.0 in
    let opening = c.requires.can.2 in
    let time = c.requires.can.3 in
    let can = c.requires.can.4 in
    let right = c.requires.can.5 in
    let bare = c.args.core.now in
    let n = c.args.number in
    let box = c.args.compiled.now in
    let after = c.execute-ran.ensures.executed opening.core (its_box opening bare n time cells box can right)
    (before_box opening bare n time cells box can right) cells c.requires.can.1
    (box_forms opening bare n time cells box can right c.the_box-b.result.now c.the_box-b.ensures) (box_is_at opening bare n time cells box can right) in
    (after.0, after.1, c.execute-ran.ensures.rest ins after.0 at after.1)

pub returns-clause-node : goal.returns-clause-node
returns-clause-node c = λ opening time cells at can right.
    let bare = c.args.core.now in
    let n = c.args.number in
    let box = c.args.compiled.now in
    let after = c.execute-ran.ensures.executed opening.core (its_box opening bare n time cells box can right)
    (before_box opening bare n time cells box can right) cells at
    (box_forms opening bare n time cells box can right c.the_box-b.result.now c.the_box-b.ensures) (box_is_at opening bare n time cells box can right) in
    box_next opening bare n time cells box can right c.execute-ran.new.self after.0 c.execute-ran.result after.2

pub returns-clause-wires : goal.returns-clause-wires
returns-clause-wires c = λ opening time cells left at can right now.
    let bare = c.args.core.now in
    let n = c.args.number in
    let box = c.args.compiled.now in
    let after = c.execute-ran.ensures.executed opening.core (its_box opening bare n time cells box can right)
    (before_box opening bare n time cells box can right) cells at
    (box_forms opening bare n time cells box can right c.the_box-b.result.now c.the_box-b.ensures) (box_is_at opening bare n time cells box can right) in
    subst (λ cs. AreRightWires opening (map ticked cs)) (same_cells c.args.side.now c.execute-ran.new.home after.0 left after.1 now)
    (box_wires opening bare n time cells box can right c.execute-ran.new.self after.0 c.execute-ran.result after.2
    (c.execute-ran.ensures.rest cells after.0 at after.1))
