use Rattle.std.proofs.Common.{◌≡◌, ◌∙◌, ◌-◌, List, ◌∷◌, length, drop, sym, ap, arith}
use Rattle.hume_model.specs.declared.core_tree.InPat.{InPat}
use Rattle.box_costs.specs.Bounds.{built_patterns}
use Rattle.space_costs.specs.inner.Standing.{counted}
use Rattle.space_costs.specs.inner.Positions.{count_at}
use Rattle.space_costs.proofs.Lists.{item_left}
use Rattle.space_costs.proofs.PositionSteps.{more_count}
use Rattle.space_costs.proofs.positions.built_count.Goals as goal

pub loop-i-preserved : goal.loop-i-preserved
loop-i-preserved c =
    let pats : List InPat = c.args.pats.now in
    let pat : InPat = c.index-pats-i.result in
    let left : drop (c.loop-i.i - 1) pats ≡ pat ∷ drop c.loop-i.i pats = item_left pats c.loop-i.i pat (omega (arith, c.loop-i-test.true)) (omega (arith, c.loop-i.auto.i)) c.index-pats-i.is in
    c.sum-total.ensures (count_at pat) (length (built_patterns (drop c.loop-i.i pats))) c.position_count.ensures c.loop-i.invariant
    ∙ ap counted (sym (more_count pat (drop c.loop-i.i pats)) ∙ ap (λ (l : List InPat). length (built_patterns l)) (sym left))
