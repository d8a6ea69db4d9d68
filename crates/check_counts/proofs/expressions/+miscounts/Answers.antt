use Rattle.std.proofs.Common.{map, ap, sym, ◌∙◌, ◌||◌}
use Rattle.std.specs.List.{list_any}
use Rattle.check_counts.specs.Miscounts.{miscounts, arm_miscounts}
use Rattle.check_counts.specs.inner.Arms.{arm_with}
use Rattle.check_counts.proofs.CountSteps.{case_miscounts}
use Rattle.check_counts.proofs.expressions.+miscounts.Goals as goal

pub miscounts-returns-else-miscounts-4 : goal.miscounts-returns-else-miscounts-4
miscounts-returns-else-miscounts-4 t c =
    let counts = c.args.counts.now in
    let inside = c.an_arm_miscounts-inside.ensures ∙ ap (λ arms. list_any (arm_miscounts counts) (map (arm_with (miscounts counts)) arms)) c.as_slice.ensures in
    let part = sym (sym c.miscounts-in-Case.ensures ∙ c.if-miscounts-4.false) in
    inside ∙ ap (λ b. b || list_any (arm_miscounts counts) (map (arm_with (miscounts counts)) c.in-Case.arms)) (part ∙ ap (miscounts counts) c.deref-in-Case.ensures)
    ∙ sym (case_miscounts counts _ _) ∙ ap (miscounts counts) (sym c.in-Case.is)
