use Rattle.std.proofs.Common.{◌≡◌, ◌+◌, ℕ, Bool, suc, drop, Some, cond, slice_get, ap, sym, ◌∙◌, arith}
use Rattle.std.specs.List.{find}
use Rattle.hume_model.specs.BoxTyping.{port_types}
use Rattle.match_rules.specs.inner.WordTests.{rule_test}
use Rattle.match_rules.proofs.Orders.{find_from}
use Rattle.match_rules.proofs.choosing.first_passing.Goals as goal

pub returns-then-rule_passes : goal.returns-then-rule_passes
returns-then-rule_passes c = λ cells at.
    let test : ℕ → Bool = λ number. rule_test c.args.types.now (port_types c.args.b.now.ins) cells (slice_get c.args.b.now.rules number) in
    let passes : test c.at-number.result ≡ _ = sym (c.rule_passes.ensures cells at) ∙ c.if-rule_passes.true in
    let here = find_from test c.args.order.now c.loop-i.i c.at-number.result c.at-number.ensures in
    sym (ap (λ b. cond b (Some c.at-number.result) (find test (drop (suc c.loop-i.i) c.args.order.now))) passes) ∙ sym here ∙ c.loop-i.invariant cells at

pub loop-i-preserved : goal.loop-i-preserved
loop-i-preserved c = λ cells at.
    let test : ℕ → Bool = λ number. rule_test c.args.types.now (port_types c.args.b.now.ins) cells (slice_get c.args.b.now.rules number) in
    let fails : test c.at-number.result ≡ _ = sym (c.rule_passes.ensures cells at) ∙ c.if-rule_passes.false in
    let here = find_from test c.args.order.now c.loop-i.i c.at-number.result c.at-number.ensures in
    let step : c.loop-i.i + 1 ≡ suc c.loop-i.i = omega arith in
    ap (λ n. find test (drop n c.args.order.now)) step
    ∙ sym (ap (λ b. cond b (Some c.at-number.result) (find test (drop (suc c.loop-i.i) c.args.order.now))) fails) ∙ sym here ∙ c.loop-i.invariant cells at
