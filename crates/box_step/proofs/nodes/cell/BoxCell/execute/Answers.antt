use Rattle.std.proofs.Common.{◌≡◌, map, Some, slice_get, ap, subst, arith}
use Rattle.wire_cells.specs.Cells.{CellView}
use Rattle.wire_cells.proofs.AtHome.{same_cells, others_both}
use Rattle.box_step.specs.nodes.Right.{AreRightWires}
use Rattle.box_step.specs.nodes.Sides.{AreInputs, AreTicked, ticked}
use Rattle.box_step.specs.inner.HalfSteps.{CanExecute}
use Rattle.box_step.proofs.nodes_lemmas.SideCells.{all_ticked, kept_at}
use Rattle.box_step.proofs.nodes.cell.BoxCell.execute.Goals as goal

pub execute_kind-requires-clause-can : goal.execute_kind-requires-clause-can
execute_kind-requires-clause-can c =
    let right = c.requires.side.3.2 in (
      c.requires.side.0,
      c.requires.side.1,
      c.requires.side.3.0,
      c.args.self.now.time,
      record { even = c.requires.time.0; opens = c.requires.side.3.1; side = c.requires.side.2; wires = right.wires },
      right.kind,
    )

pub tick_all-requires-clause-home : goal.tick_all-requires-clause-home
tick_all-requires-clause-home c = let mid = c.execute_kind.ensures.rest c.requires.side.0 c.requires.side.1 in (mid.0, mid.1)

pub tick_all-requires-clause-early : goal.tick_all-requires-clause-early
tick_all-requires-clause-early c = λ cells there place cell found.
    let mid = c.execute_kind.ensures.rest c.requires.side.0 c.requires.side.1 in
    let is = same_cells c.args.side.now c.execute_kind.new.home cells mid.0 there mid.1 in
    let was = kept_at mid.0 c.requires.side.0 mid.2 place cell (subst (λ cs. slice_get cs place ≡ Some cell) is found) in
    let same = ap (λ (x : CellView). x.time) was.2 in
    let at = c.requires.side.2.times place was.0 was.1 in
    omega (arith, same, at, c.requires.time)

pub returns-clause-others : goal.returns-clause-others
returns-clause-others c =
    others_both c.args.side.now c.args.home.now c.execute_kind.new.home c.tick_all.new.home c.execute_kind.ensures.others c.tick_all.ensures.others

pub returns-clause-home : goal.returns-clause-home
returns-clause-home c = λ ins at.
    let mid = c.execute_kind.ensures.rest ins at in
    (map ticked mid.0, c.tick_all.ensures.cells mid.0 mid.1)

pub returns-clause-rest : goal.returns-clause-rest
returns-clause-rest c = λ ins after at now.
    let mid = c.execute_kind.ensures.rest ins at in
    subst (AreTicked ins) (same_cells c.args.side.now c.tick_all.new.home (map ticked mid.0) after (c.tick_all.ensures.cells mid.0 mid.1) now)
    (all_ticked mid.0 ins mid.2)

pub returns-clause-right : goal.returns-clause-right
returns-clause-right c = λ opening ins after opens at right now.
    let bare = c.args.core.now in
    let n = c.args.self.now.number in
    let time = c.args.self.now.time in
    let mid = c.execute_kind.ensures.rest ins at in
    let side = subst (AreInputs bare n time) (same_cells c.args.side.now c.args.home.now c.requires.side.0 ins c.requires.side.1 at) c.requires.side.2 in
    let can : CanExecute opening bare n time ins = record { even = c.requires.time.0; opens = opens; side = side; wires = right.wires } in
    record {
      kind = c.execute_kind.ensures.node opening time ins at can right.kind;
      wires = subst (AreRightWires opening)
          (same_cells c.args.side.now c.tick_all.new.home (map ticked mid.0) after (c.tick_all.ensures.cells mid.0 mid.1) now)
          (c.execute_kind.ensures.wires opening time ins mid.0 at can right.kind mid.1);
    }
