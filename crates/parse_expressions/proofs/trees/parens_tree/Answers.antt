use Rattle.std.proofs.Common.{sym, ap, ◌∙◌}
use Rattle.hume_ast.specs.Depth.{exp_depth}
use Rattle.parse_expressions.specs.inner.Measures.{counted}
use Rattle.parse_expressions.proofs.TreeSteps.{parens_depth}
use Rattle.parse_expressions.proofs.trees.parens_tree.Goals as goal

pub with_depth-requires : goal.with_depth-requires
with_depth-requires c = c.one_deeper-depth.ensures _ c.args.parts.counts ∙ ap counted (sym (ap exp_depth c.in_ok-exp.ensures ∙ parens_depth c.args.parts.items))
