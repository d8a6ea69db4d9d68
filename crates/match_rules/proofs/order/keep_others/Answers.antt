use Rattle.std.proofs.Common.{◌<◌, not, length, ap, arith}
use Rattle.std.proofs.lemmas.Bool.{eq-eqb, ne_eqb}
use Rattle.std.proofs.lemmas.List.Filters.{FiltersInPlace-more_no, FiltersInPlace-more_set}
use Rattle.match_rules.proofs.Orders.{stands_at}
use Rattle.match_rules.proofs.order.keep_others.Goals.{then-other-rule, else-other-rule}
use Rattle.match_rules.proofs.order.keep_others.Goals as goal

pub loop-i-preserved : goal.loop-i-preserved
loop-i-preserved c =
    let within : c.loop-i.i < length c.loop-i.rules = omega (arith, c.loop-i-test.true, c.requires, c.loop-i.auto.rules) in
    elim c.if-other-rule.branch [
      | then-other-rule w ↦ rw (w.rules-is, w.kept-is)
          (FiltersInPlace-more_set c.loop-i.invariant within (ap not (ne_eqb _ _ w.if-other-rule.true)) (stands_at c.loop-i.rules c.loop-i.i _ _ within))
      | else-other-rule w ↦ rw (w.rules-is, w.kept-is)
          (FiltersInPlace-more_no c.loop-i.invariant within (ap not (eq-eqb _ _ w.if-other-rule.false)) (stands_at c.loop-i.rules c.loop-i.i _ _ within))
    ]
