use Rattle.std.proofs.Common.{◌≤◌, ◌<◌, length, arith}
use Rattle.phase_workers.specs.inner.Begun.{begun_wire}
use Rattle.phase_workers.proofs.MappedSoFar.{none_mapped, one_mapped, every_mapped}
use Rattle.phase_workers.proofs.begin.begin_wires.Goals as goal

pub loop-i-init : goal.loop-i-init
loop-i-init c = none_mapped begun_wire c.args.home.now

pub loop-i-preserved : goal.loop-i-preserved
loop-i-preserved c =
    let less : c.loop-i.i < length c.loop-i.home = omega arith in
    one_mapped begun_wire c.loop-i.i c.args.home.now c.loop-i.home c.loop-i.invariant c.index-home-i.result c.begin_wire.new.cell less c.begin_wire.ensures

pub returns : goal.returns
returns c =
    let past : length c.loop-i.home ≤ c.loop-i.i = omega arith in
    every_mapped begun_wire c.loop-i.i c.args.home.now c.loop-i.home c.loop-i.invariant past
