use Rattle.std.proofs.Common.{subst, arith}
use Rattle.wire_cells.proofs.AtHome.{same_cells}
use Rattle.box_step.specs.nodes.Sides.{AreOutputs, AreTicked}
use Rattle.box_step.specs.inner.HalfSteps.{CanAssert}
use Rattle.box_step.proofs.nodes.cell.BoxCell.super_step.Goals as goal

pub assert_kind-requires-clause-can : goal.assert_kind-requires-clause-can
assert_kind-requires-clause-can c =
    let outs = c.requires.side.0 in
    let side = c.requires.side.2 in
    let right = c.requires.side.3.2 in (
      outs,
      c.requires.side.1,
      (λ place cell there. let at = side.times place cell there in omega (arith, at, c.requires.time)),
      c.requires.side.3.0,
      c.args.core.now,
      c.args.self.now.time,
      record { odd = c.requires.time.0; opens = c.requires.side.3.1; side = side; wires = right.wires },
      right.kind,
    )

pub returns-clause-home : goal.returns-clause-home
returns-clause-home c = λ outs at. let after = c.assert_kind.ensures.rest outs at in (after.0, after.1)

pub returns-clause-rest : goal.returns-clause-rest
returns-clause-rest c = λ outs after at now.
    let is = c.assert_kind.ensures.rest outs at in
    subst (AreTicked outs) (same_cells c.args.side.now c.assert_kind.new.home is.0 after is.1 now) is.2

pub returns-clause-right : goal.returns-clause-right
returns-clause-right c = λ opening outs after opens at right now.
    let side = subst (AreOutputs c.args.core.now c.args.self.now.number c.args.self.now.time)
    (same_cells c.args.side.now c.args.home.now c.requires.side.0 outs c.requires.side.1 at) c.requires.side.2 in
    let can : CanAssert opening c.args.core.now c.args.self.now.number c.args.self.now.time outs =
    record { odd = c.requires.time.0; opens = opens; side = side; wires = right.wires } in
    record {
      kind = c.assert_kind.ensures.node opening c.args.core.now c.args.self.now.time outs at can right.kind;
      wires = c.assert_kind.ensures.wires opening c.args.core.now c.args.self.now.time outs after at can right.kind now;
    }
