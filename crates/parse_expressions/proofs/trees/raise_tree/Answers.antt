use Rattle.std.proofs.Common.{sym, ap, ◌∙◌}
use Rattle.parse_expressions.specs.inner.Measures.{counted}
use Rattle.parse_expressions.proofs.TreeSteps.{raise_depth}
use Rattle.parse_expressions.proofs.trees.raise_tree.Goals as goal

pub with_depth-requires : goal.with_depth-requires
with_depth-requires c = c.one_deeper-depth.ensures _ c.args.value.counts ∙ ap counted (sym (raise_depth c.args.name c.args.value.exp))
