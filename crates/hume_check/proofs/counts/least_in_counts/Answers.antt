use Rattle.std.proofs.Common.{◌∙◌, sym, subst}
use Rattle.hume_base.specs.Least.{IsLeast, earlier_of}
use Rattle.check_rules.specs.CheckRules.{BreaksCounts}
use Rattle.hume_check.proofs.Phases.{least_count}
use Rattle.hume_check.proofs.counts.least_in_counts.Goals as goal

pub returns : goal.returns
returns c =
    subst (IsLeast (BreaksCounts c.args.program.now.decls))
    (sym (c.earlier-2.ensures
    ∙ (λ i. earlier_of (c.of-miscounted.ensures i)
    ((c.earlier.ensures ∙ (λ j. earlier_of (c.of-bound_twice.ensures j) (c.of-stray_star.ensures j))) i))))
    (least_count c.args.program.now.decls c.in_ok-first_miscounted.field-0 c.in_ok-first_bound_twice.field-0 c.first_stray_star.result
    c.in_ok-first_miscounted.ensures c.in_ok-first_bound_twice.ensures c.first_stray_star.ensures)
