use Rattle.std.proofs.Common.{◌≡◌, ◌∙◌, ◌+◌, Some, length, slice_get, get_or, refl, sym, ap, subst, arith}
use Rattle.std.proofs.lemmas.Option.{slice_get_read}
use Rattle.hume_base.specs.declared.rule.Rule.TheVariants.{C78}
use Rattle.hume_base.specs.Least.{IsLeast}
use Rattle.hume_model.specs.Declarations.{declaration_of}
use Rattle.hume_model.proofs.Findings.{IsAmong, next_among}
use Rattle.box_costs.specs.CostRules.{SpacePasses, node_bound, space_of, space_before}
use Rattle.box_costs.specs.declared.cost.Cost.{Cost}
use Rattle.box_costs.specs.Costs.{nothing}
use Rattle.space_costs.specs.inner.Standing.{counted}
use Rattle.space_costs.proofs.Lists.{there_or}
use Rattle.space_costs.proofs.NodeFindings.{least_nodes, same_length, cost_at, space_same, space_next}
use Rattle.space_costs.proofs.findings.least_in_sum.Goals as goal

pub bounds-costs-n : goal.bounds-costs-n
bounds-costs-n c =
    let long = same_length c.args.core.now c.args.core.now.nodes c.args.costs.now c.requires in
    let nodes = ap length c.as_slice-nodes.ensures in
    let low = c.loop-n-test.true in
    omega (arith, long, nodes, low)

pub loop-n-preserved : goal.loop-n-preserved
loop-n-preserved c =
    let core = c.args.core.now in
    let n = c.loop-n.n in
    let item = c.index-nodes-n.result in
    let x : Cost = get_or c.args.costs.now n nothing in
    let here : slice_get c.as_slice-nodes.result.now n ≡ Some item = slice_get_read _ _ n item refl c.loop-n-test.true c.index-nodes-n.is in
    let at : slice_get core.nodes n ≡ Some item = rw c.as_slice-nodes.ensures at here in
    let long = same_length core core.nodes c.args.costs.now c.requires in
    let nodes = ap length c.as_slice-nodes.ensures in
    let low = c.loop-n-test.true in
    let there : slice_get c.args.costs.now n ≡ Some x = there_or c.args.costs.now n nothing (omega (arith, long, nodes, low)) in
    let is = cost_at core core.nodes c.args.costs.now c.requires n item x at there in
    let through : c.sum-through.result ≡ counted (space_before core n + space_of (node_bound core item)) =
    c.sum-through.ensures (space_before core n) (space_of (node_bound core item)) c.loop-n.invariant.sum (c.space.ensures (node_bound core item) is) in
    let test = space_same core n item c.loop-n.before c.sum-through.result c.loop-n.invariant.sum through c.is_passed-passes.result c.is_passed-passes.ensures in
    record {
      least = rw (c.with_found-least.ensures, c.declaration.ensures)
          (next_among core.nodes declaration_of (SpacePasses core) C78 n item c.loop-n.least c.is_passed-passes.result at test c.loop-n.invariant.least);
      sum = through ∙ ap counted (sym (space_next core n item at));
    }

pub returns : goal.returns
returns c =
    let core = c.args.core.now in
    let all : c.loop-n.n ≡ length core.nodes = (let e = c.as_slice-nodes.ensures in let h = ap length e in omega arith) in
    least_nodes core SpacePasses C78 c.loop-n.least
    (subst (λ k. IsLeast (IsAmong core.nodes declaration_of (SpacePasses core) C78 k) c.loop-n.least) all c.loop-n.invariant.least)
