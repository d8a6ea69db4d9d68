use Rattle.std.proofs.Common.{◌≡◌, ◌-◌, List, ◌∷◌, map, drop, sym, subst, arith}
use Rattle.hume_model.specs.declared.core_tree.RuleC.{RuleC}
use Rattle.box_costs.specs.Costs.{any_of}
use Rattle.box_costs.specs.Bounds.{rule_bound}
use Rattle.space_costs.specs.inner.Standing.{IsCostOf}
use Rattle.space_costs.proofs.Lists.{item_left}
use Rattle.space_costs.proofs.boxes.box_cost.Goals as goal

pub loop-i-preserved : goal.loop-i-preserved
loop-i-preserved c =
    let rules : List RuleC = c.as_slice-rules.result.now in
    let rule : RuleC = c.index-rules-i.result in
    let left : drop (c.loop-i.i - 1) rules ≡ rule ∷ drop c.loop-i.i rules = item_left rules c.loop-i.i rule (omega (arith, c.loop-i-test.true)) (omega (arith, c.loop-i.auto.i)) c.index-rules-i.is in
    subst (λ (l : List RuleC). IsCostOf c.either-cost.result (any_of (map (rule_bound c.args.core.now c.args.b.now) l))) (sym left)
    (c.either-cost.ensures _ _ c.rule_cost.ensures c.loop-i.invariant)
