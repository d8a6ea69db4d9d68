use Rattle.std.proofs.Common.{◌≡◌, Some, length, slice_get, refl, ap, subst, arith}
use Rattle.std.proofs.lemmas.Option.{slice_get_read}
use Rattle.hume_base.specs.declared.rule.Rule.TheVariants.{C54}
use Rattle.hume_base.specs.Least.{IsLeast}
use Rattle.hume_model.proofs.Findings.{IsAmong, next_among}
use Rattle.wiring_check.proofs.Broken.{wire_declaration, JoinsAt, least_joins}
use Rattle.wiring_check.proofs.findings.least_join.Goals as goal

pub loop-w-preserved : goal.loop-w-preserved
loop-w-preserved c =
    let item = c.index-wires-w.result in
    let here : slice_get c.as_slice-wires.result.now c.loop-w.w ≡ Some item = slice_get_read _ _ c.loop-w.w item refl c.loop-w-test.true c.index-wires-w.is in
    let at : slice_get c.args.core.now.wires c.loop-w.w ≡ Some item = rw c.as_slice-wires.ensures at here in
    rw (c.with_found-least.ensures) (next_among c.args.core.now.wires wire_declaration (JoinsAt c.args.core.now) C54 c.loop-w.w item c.loop-w.least c.joins_others-broken.result at c.joins_others-broken.ensures c.loop-w.invariant)

pub returns : goal.returns
returns c =
    let all : c.loop-w.w ≡ length c.args.core.now.wires = (let e = c.as_slice-wires.ensures in let h = ap length e in omega arith) in
    least_joins c.args.core.now c.loop-w.least (subst (λ k. IsLeast (IsAmong c.args.core.now.wires wire_declaration (JoinsAt c.args.core.now) C54 k) c.loop-w.least) all c.loop-w.invariant)
