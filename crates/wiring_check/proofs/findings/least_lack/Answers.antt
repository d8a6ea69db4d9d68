use Rattle.std.proofs.Common.{◌≡◌, Some, length, slice_get, refl, ap, subst, arith}
use Rattle.std.proofs.lemmas.Option.{slice_get_read}
use Rattle.hume_base.specs.Least.{IsLeast}
use Rattle.hume_model.specs.Declarations.{declaration_of}
use Rattle.hume_model.proofs.Findings.{IsAmong, next_among}
use Rattle.wiring_check.specs.inner.Slots.{lack_rule}
use Rattle.wiring_check.proofs.Broken.{LacksAt, least_lacks}
use Rattle.wiring_check.proofs.findings.least_lack.Goals as goal

pub loop-n-preserved : goal.loop-n-preserved
loop-n-preserved c =
    let item = c.index-nodes-n.result in
    let here : slice_get c.as_slice-nodes.result.now c.loop-n.n ≡ Some item = slice_get_read _ _ c.loop-n.n item refl c.loop-n-test.true c.index-nodes-n.is in
    let at : slice_get c.args.core.now.nodes c.loop-n.n ≡ Some item = rw c.as_slice-nodes.ensures at here in
    rw (c.with_found-least.ensures, c.lack-rule.ensures, c.declaration.ensures) (next_among c.args.core.now.nodes declaration_of (LacksAt c.args.core.now c.args.side) (lack_rule c.args.side) c.loop-n.n item c.loop-n.least c.lacks_port-broken.result at c.lacks_port-broken.ensures c.loop-n.invariant)

pub returns : goal.returns
returns c =
    let all : c.loop-n.n ≡ length c.args.core.now.nodes = (let e = c.as_slice-nodes.ensures in let h = ap length e in omega arith) in
    least_lacks c.args.core.now c.args.side c.loop-n.least (subst (λ k. IsLeast (IsAmong c.args.core.now.nodes declaration_of (LacksAt c.args.core.now c.args.side) (lack_rule c.args.side) k) c.loop-n.least) all c.loop-n.invariant)
