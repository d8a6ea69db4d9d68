use Rattle.std.proofs.Common.{[], ◌∷◌, ◌++◌, ap, ◌∙◌}
use Rattle.parse_expressions.proofs.TreeSteps.{one_alternative}
use Rattle.parse_expressions.proofs.trees.Alternatives.with.Goals as goal

pub invariant_of-result : goal.invariant_of-result
invariant_of-result c =
    let pushed = c.in_ok-push.ensures.ok ∙ ap (λ e. c.args.self.items ++ (c.args.pattern, e) ∷ []) c.into_inner.ensures in
    record { counts = c.deeper.ensures _ _ c.args.self.counts c.args.tree.counts ∙ one_alternative _ _ (c.args.pattern, c.args.tree.exp) pushed }
