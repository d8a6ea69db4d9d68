use Rattle.std.proofs.Common.{◌≡◌, ◌+◌, length, sym, ap, subst, arith}
use Rattle.phase_workers.specs.inner.Making.{AreFirstWires}
use Rattle.phase_workers.proofs.MadeCells.{wire_more}
use Rattle.phase_workers.proofs.making.make_home.Goals as goal

pub loop-w-init : goal.loop-w-init
loop-w-init c = record { long = ap length c.new-home.ensures.items; each = λ w wire less there. absurd (omega (arith, less)) }

pub loop-w-preserved : goal.loop-w-preserved
loop-w-preserved c =
    subst (AreFirstWires c.args.core.now (c.loop-w.w + 1)) (sym c.in_ok-push.ensures.items)
    (wire_more c.args.core.now c.loop-w.w c.loop-w.home.items c.in_ok-cell.cell c.loop-w.invariant c.in_ok-cell.ensures)

pub returns : goal.returns
returns c =
    let all : c.loop-w.w ≡ length c.args.core.now.wires = omega (arith, c.loop-w-test.false, c.loop-w.auto.w-end, c.len-w-end.ensures) in
    subst (λ k. AreFirstWires c.args.core.now k c.loop-w.home.items) all c.loop-w.invariant
