use Rattle.std.proofs.Common.{◌≡◌, ◌↔◌, IsTrue, Some, length, slice_get, get_or, refl, sym, ap, subst, arith}
use Rattle.std.proofs.lemmas.Option.{slice_get_read}
use Rattle.hume_base.specs.Least.{IsLeast}
use Rattle.hume_model.specs.Declarations.{declaration_of}
use Rattle.hume_model.proofs.Findings.{IsAmong, next_among}
use Rattle.box_costs.specs.declared.cost.Cost.{Cost}
use Rattle.box_costs.specs.Costs.{nothing}
use Rattle.space_costs.specs.inner.Parts.{rule_of, PartPasses}
use Rattle.space_costs.proofs.Lists.{there_or}
use Rattle.space_costs.proofs.NodeFindings.{least_nodes, same_length, cost_at, past_same}
use Rattle.space_costs.proofs.findings.least_past.Goals as goal

pub bounds-costs-n : goal.bounds-costs-n
bounds-costs-n c =
    let long = same_length c.args.core.now c.args.core.now.nodes c.args.costs.now c.requires in
    let nodes = ap length c.as_slice-nodes.ensures in
    let low = c.loop-n-test.true in
    omega (arith, long, nodes, low)

pub loop-n-preserved : goal.loop-n-preserved
loop-n-preserved c =
    let core = c.args.core.now in
    let n = c.loop-n.n in
    let item = c.index-nodes-n.result in
    let x : Cost = get_or c.args.costs.now n nothing in
    let here : slice_get c.as_slice-nodes.result.now n ≡ Some item = slice_get_read _ _ n item refl c.loop-n-test.true c.index-nodes-n.is in
    let at : slice_get core.nodes n ≡ Some item = rw c.as_slice-nodes.ensures at here in
    let long = same_length core core.nodes c.args.costs.now c.requires in
    let nodes = ap length c.as_slice-nodes.ensures in
    let low = c.loop-n-test.true in
    let there : slice_get c.args.costs.now n ≡ Some x = there_or c.args.costs.now n nothing (omega (arith, long, nodes, low)) in
    let is = cost_at core core.nodes c.args.costs.now c.requires n item x at there in
    let test : IsTrue c.is_past.result ↔ PartPasses c.args.part core n item =
    subst (λ b. IsTrue b ↔ PartPasses c.args.part core n item) (sym c.is_past.ensures) (past_same core n item c.args.part x is) in
    rw (c.with_found-least.ensures, c.rule.ensures, c.declaration.ensures)
    (next_among core.nodes declaration_of (PartPasses c.args.part core) (rule_of c.args.part) n item c.loop-n.least c.is_past.result at test c.loop-n.invariant)

pub returns : goal.returns
returns c =
    let core = c.args.core.now in
    let all : c.loop-n.n ≡ length core.nodes = (let e = c.as_slice-nodes.ensures in let h = ap length e in omega arith) in
    least_nodes core (PartPasses c.args.part) (rule_of c.args.part) c.loop-n.least
    (subst (λ k. IsLeast (IsAmong core.nodes declaration_of (PartPasses c.args.part core) (rule_of c.args.part) k) c.loop-n.least) all c.loop-n.invariant)
