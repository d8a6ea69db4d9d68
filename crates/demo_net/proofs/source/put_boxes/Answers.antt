use Rattle.std.proofs.Common.{◌≡◌, ◌+◌, arith}
use Rattle.demo_net.specs.declared.source.TheConstants.{BOXES_BEHIND}
use Rattle.demo_net.specs.Source.{box_lines, boxes_behind}
use Rattle.demo_net.proofs.Ranges.{put_more, put_all}
use Rattle.demo_net.proofs.source.put_boxes.Goals as goal

pub loop-before-preserved : goal.loop-before-preserved
loop-before-preserved c =
    let place : 1 + c.loop-before.before ≡ c.loop-before.before + 1 = omega arith in
    put_more (box_lines c.args.number c.args.chain) 1 c.loop-before.before (c.loop-before.before + 1) _ _ _ place c.loop-before.invariant c.in-Ok.ensures

pub returns : goal.returns
unfolding boxes_behind
returns c =
    let all : c.loop-before.before ≡ BOXES_BEHIND = omega (arith, c.loop-before-test.false, c.loop-before.auto.before-end) in
    put_all (box_lines c.args.number c.args.chain) 1 c.loop-before.before BOXES_BEHIND _ _ all c.loop-before.invariant
