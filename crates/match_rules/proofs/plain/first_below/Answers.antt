use Rattle.std.proofs.Common.{◌≡◌, ◌+◌, ℕ, Bool, suc, nat_lt, drop, Some, cond, ap, sym, ◌∙◌, arith}
use Rattle.std.specs.List.{find}
use Rattle.std.proofs.lemmas.Bool.{lt-ltb, le-ltb}
use Rattle.match_rules.proofs.Orders.{find_from}
use Rattle.match_rules.proofs.plain.first_below.Goals as goal

pub returns-then-number-count : goal.returns-then-number-count
returns-then-number-count c =
    let test : ℕ → Bool = λ number. nat_lt number c.args.count in
    let passes : test c.at-number.result ≡ _ = lt-ltb _ _ c.if-number-count.true in
    let here = find_from test c.args.order.now c.loop-i.i c.at-number.result c.at-number.ensures in
    sym (ap (λ b. cond b (Some c.at-number.result) (find test (drop (suc c.loop-i.i) c.args.order.now))) passes) ∙ sym here ∙ c.loop-i.invariant

pub loop-i-preserved : goal.loop-i-preserved
loop-i-preserved c =
    let test : ℕ → Bool = λ number. nat_lt number c.args.count in
    let fails : test c.at-number.result ≡ _ = le-ltb _ _ c.if-number-count.false in
    let here = find_from test c.args.order.now c.loop-i.i c.at-number.result c.at-number.ensures in
    let step : c.loop-i.i + 1 ≡ suc c.loop-i.i = omega arith in
    ap (λ n. find test (drop n c.args.order.now)) step
    ∙ sym (ap (λ b. cond b (Some c.at-number.result) (find test (drop (suc c.loop-i.i) c.args.order.now))) fails) ∙ sym here ∙ c.loop-i.invariant
