use Rattle.std.proofs.Common.{◌≡◌, ℕ, suc, true, take, sym, subst, ◌∙◌, add-one}
use Rattle.check_tasks.specs.Tasks.{walks, walks_open}
use Rattle.check_expressions.proofs.Opening.{one_more_open}
use Rattle.check_expressions.proofs.open.first_closed.Goals as goal

pub loop-place-preserved : goal.loop-place-preserved
loop-place-preserved c = subst (λ n. walks_open (walks c.args.at.now.0.2 (take n c.args.parts.now)) ≡ true) (sym (add-one c.loop-place.place))
    (one_more_open c.args.at.now.0.2 c.args.parts.now c.loop-place.place c.index-parts-place.result c.loop-place-test.true (sym c.index-parts-place.is) c.loop-place.invariant
    (sym c.is_open.ensures ∙ c.if-not-is_open.false))
