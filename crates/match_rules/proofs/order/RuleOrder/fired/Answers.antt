use Rattle.std.proofs.Common.{◌<◌, ◌≤◌, ℕ, List, length, ap, ◌∙◌, arith}
use Rattle.std.proofs.lemmas.List.{length-take-le}
use Rattle.hume_net.specs.HalfSteps.{moved_last}
use Rattle.match_rules.proofs.Orders.{one_less, fired_order, fired_is_order}
use Rattle.match_rules.proofs.order.RuleOrder.fired.Goals as goal

pub bounds-self-inside-kept : goal.bounds-self-inside-kept
bounds-self-inside-kept c =
    let within : c.self.inside.count ≤ length c.self.inside.rules = omega (arith, c.self.told, c.self.invariant.0) in
    let below : c.args.rule < c.self.inside.count =
    (let all = length-take-le c.self.inside.count c.self.inside.rules within in let same = ap (λ (order : List ℕ). length order) c.self.view_is in omega
    (arith, all, same, c.requires)) in
    let one = one_less c.self.inside.rules c.keep_others-kept.new.rules c.self.inside.count c.args.rule c.keep_others-kept.result c.self.invariant.1 within below
    c.keep_others-kept.ensures.kept c.keep_others-kept.ensures.few c.keep_others-kept.ensures.room in
    omega (arith, one, c.self.invariant.0)

pub invariant_of-self : goal.invariant_of-self
invariant_of-self c =
    let within : c.self.inside.count ≤ length c.self.inside.rules = omega (arith, c.self.told, c.self.invariant.0) in
    let below : c.args.rule < c.self.inside.count =
    (let all = length-take-le c.self.inside.count c.self.inside.rules within in let same = ap (λ (order : List ℕ). length order) c.self.view_is in omega
    (arith, all, same, c.requires)) in (
      c.self.invariant.0,
      fired_is_order c.self.inside.rules c.keep_others-kept.new.rules c.self.inside.count c.args.rule c.keep_others-kept.result c.self.invariant.1 within below
          c.keep_others-kept.ensures.kept c.keep_others-kept.ensures.few c.keep_others-kept.ensures.room,
    )

pub returns : goal.returns
returns c =
    let within : c.self.inside.count ≤ length c.self.inside.rules = omega (arith, c.self.told, c.self.invariant.0) in
    let below : c.args.rule < c.self.inside.count =
    (let all = length-take-le c.self.inside.count c.self.inside.rules within in let same = ap (λ (order : List ℕ). length order) c.self.view_is in omega
    (arith, all, same, c.requires)) in
    fired_order c.self.inside.rules c.keep_others-kept.new.rules c.self.inside.count c.args.rule c.keep_others-kept.result c.self.invariant.1 within below
    c.keep_others-kept.ensures.kept c.keep_others-kept.ensures.few c.keep_others-kept.ensures.room
    ∙ ap (moved_last c.args.rule) c.self.view_is
