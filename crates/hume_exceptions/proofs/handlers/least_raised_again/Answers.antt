use Rattle.std.proofs.Common.{◌≡◌, Some, length, slice_get, refl, ap, subst, arith}
use Rattle.std.proofs.lemmas.Option.{slice_get_read}
use Rattle.hume_base.specs.declared.rule.Rule.TheVariants.{C61}
use Rattle.hume_base.specs.Least.{IsLeast}
use Rattle.hume_model.specs.Declarations.{declaration_of}
use Rattle.hume_model.specs.HandlerRules.{RaisesAgain}
use Rattle.hume_model.proofs.Findings.{IsAmong, next_among}
use Rattle.hume_exceptions.proofs.BoxFindings.{BoxAt, least_boxes}
use Rattle.hume_exceptions.proofs.handlers.least_raised_again.Goals as goal

pub loop-n-preserved : goal.loop-n-preserved
loop-n-preserved c =
    let core = c.args.core.now in
    let item = c.index-nodes-n.result in
    let here : slice_get c.as_slice-nodes.result.now c.loop-n.n ≡ Some item = slice_get_read _ _ c.loop-n.n item refl c.loop-n-test.true c.index-nodes-n.is in
    let at : slice_get core.nodes c.loop-n.n ≡ Some item = rw c.as_slice-nodes.ensures at here in
    rw (c.with_found-least.ensures, c.declaration.ensures)
    (next_among core.nodes declaration_of (BoxAt core RaisesAgain) C61 c.loop-n.n item c.loop-n.least c.node_raises_again-broken.result at c.node_raises_again-broken.ensures c.loop-n.invariant)

pub returns : goal.returns
returns c =
    let all : c.loop-n.n ≡ length c.args.core.now.nodes = (let e = c.as_slice-nodes.ensures in let h = ap length e in omega arith) in
    least_boxes c.args.core.now RaisesAgain C61 c.loop-n.least
    (subst (λ k. IsLeast (IsAmong c.args.core.now.nodes declaration_of (BoxAt c.args.core.now RaisesAgain) C61 k) c.loop-n.least) all c.loop-n.invariant)
