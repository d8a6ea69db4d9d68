use Rattle.std.proofs.Common.{◌≡◌, ◌∙◌, ◌+◌, List, [], ◌∷◌, ◌++◌, take, Some, slice_get, refl, sym, ap, subst, add-one}
use Rattle.std.proofs.lemmas.Option.{slice_get_read}
use Rattle.hume_model.specs.declared.core_tree.NodeC.{NodeC}
use Rattle.box_costs.specs.declared.cost.Cost.{Cost}
use Rattle.space_costs.specs.inner.Standing.{AreNodeCosts}
use Rattle.space_costs.proofs.KnownHandlers.{known_handlers}
use Rattle.space_costs.proofs.NodeFindings.{one_more_node, take_more}
use Rattle.space_costs.proofs.nodes.node_costs.Goals as goal

pub loop-node-init : goal.loop-node-init
loop-node-init c = subst (λ (costs : List Cost). AreNodeCosts c.args.core.now [] costs) (sym c.new-costs.ensures) AreNodeCosts.none

pub node_cost-requires-clause-handlers : goal.node_cost-requires-clause-handlers
node_cost-requires-clause-handlers c =
    let core = c.args.core.now in
    let node = c.node-item.result in
    let k = c.loop-node.node-index in
    let here : slice_get c.as_slice-node-items.result.now k ≡ Some node = slice_get_read _ _ k node refl c.loop-node-test.true c.node-item.is in
    let found : slice_get core.nodes k ≡ Some node = rw c.as_slice-node-items.ensures at here in
    known_handlers core c.requires.frame k node found

pub loop-node-preserved : goal.loop-node-preserved
loop-node-preserved c =
    let core = c.args.core.now in
    let node = c.node-item.result in
    let k = c.loop-node.node-index in
    let here : slice_get c.as_slice-node-items.result.now k ≡ Some node = slice_get_read _ _ k node refl c.loop-node-test.true c.node-item.is in
    let found : slice_get core.nodes k ≡ Some node = rw c.as_slice-node-items.ensures at here in
    let more : take (k + 1) core.nodes ≡ take k core.nodes ++ node ∷ [] = ap (λ n. take n core.nodes) (add-one k) ∙ take_more core.nodes k node found in
    subst (λ (costs : List Cost). AreNodeCosts core (take (k + 1) core.nodes) costs) (sym c.in_ok-push.ensures.ok)
    (subst (λ (nodes : List NodeC). AreNodeCosts core nodes (c.loop-node.costs ++ c.node_cost.result ∷ [])) (sym more)
    (one_more_node core (take k core.nodes) c.loop-node.costs node c.node_cost.result c.loop-node.invariant c.node_cost.ensures))
