use Rattle.std.proofs.Common.{map, ap, sym, ◌∙◌}
use Rattle.check_counts.specs.Miscounts.{has_other_leaf, arm_leaves}
use Rattle.check_counts.specs.inner.Arms.{arm_with}
use Rattle.check_counts.proofs.CountSteps.{case_leaves}
use Rattle.check_counts.proofs.results.+has_other_leaf.Goals as goal

pub has_other_leaf-returns-in-Case : goal.has_other_leaf-returns-in-Case
has_other_leaf-returns-in-Case t c =
    let count = c.args.count in
    c.an_arm_has_other_leaf.ensures ∙ ap (λ arms. arm_leaves (map (arm_with (has_other_leaf count)) arms)) c.as_slice.ensures
    ∙ sym (case_leaves count _ _) ∙ ap (has_other_leaf count) (sym c.in-Case.is)
