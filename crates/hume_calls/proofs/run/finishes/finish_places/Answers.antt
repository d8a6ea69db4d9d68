use Rattle.std.proofs.Common.{◌≡◌, ◌<◌, ◌≤◌, subst, refl, List, length, get_or}
use Rattle.hume_model.specs.declared.core_tree.NodeC.{NodeC}
use Rattle.hume_calls.proofs.Finishing.{finishing_next, finishing_over}
use Rattle.hume_calls.proofs.run.finishes.finish_places.Goals as goal

pub loop-node-preserved : goal.loop-node-preserved
loop-node-preserved c =
    let nodes = c.as_slice-nodes.ensures in
    finishing_next c.args.core.now c.args.places.now c.args.out c.loop-node.finishes.items c.add_finish.new.finishes.items c.loop-node.node _ c.index-nodes-node.result
    (subst (λ (ns : List NodeC). c.loop-node.node < length ns) nodes c.loop-node-test.true) c.requires
    (subst (λ (ns : List NodeC). c.index-nodes-node.result ≡ get_or ns c.loop-node.node c.index-nodes-node.result) nodes c.index-nodes-node.is)
    refl c.in-Ok.ensures c.loop-node.invariant

pub returns : goal.returns
returns c =
    let nodes = c.as_slice-nodes.ensures in
    finishing_over c.args.core.now c.args.places.now c.args.out c.loop-node.finishes.items c.push.new.self.items c.loop-node.node
    (subst (λ (ns : List NodeC). length ns ≤ c.loop-node.node) nodes c.loop-node-test.false) c.in_ok-push.ensures.items c.loop-node.invariant
