use Rattle.std.proofs.Common.{◌≤◌, ◌<◌, length, get_or, arith}
use Rattle.phase_workers.specs.inner.Begun.{begun_cell}
use Rattle.phase_workers.proofs.MappedSoFar.{none_mapped, item_there, one_mapped, every_mapped}
use Rattle.phase_workers.proofs.begin.begin_nodes.Goals as goal

pub loop-i-init : goal.loop-i-init
loop-i-init c = none_mapped begun_cell c.args.nodes.now

pub begin-requires : goal.begin-requires
begin-requires c =
    let less : c.loop-i.i < length c.loop-i.nodes = omega arith in
    c.requires c.loop-i.i (get_or c.loop-i.nodes c.loop-i.i c.index-nodes-i.result)
    (item_there begun_cell c.loop-i.i c.args.nodes.now c.loop-i.nodes c.loop-i.invariant c.index-nodes-i.result less)

pub loop-i-preserved : goal.loop-i-preserved
loop-i-preserved c =
    let less : c.loop-i.i < length c.loop-i.nodes = omega arith in
    one_mapped begun_cell c.loop-i.i c.args.nodes.now c.loop-i.nodes c.loop-i.invariant c.index-nodes-i.result c.begin.new.self less c.begin.ensures.begun

pub returns : goal.returns
returns c =
    let past : length c.loop-i.nodes ≤ c.loop-i.i = omega arith in
    every_mapped begun_cell c.loop-i.i c.args.nodes.now c.loop-i.nodes c.loop-i.invariant past
