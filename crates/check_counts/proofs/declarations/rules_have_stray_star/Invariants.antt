use Rattle.std.proofs.Common.{◌≡◌, List, drop}
use Rattle.std.specs.List.{list_any}
use Rattle.hume_ast.specs.declared.tree.Pat.{Pat}
use Rattle.hume_ast.specs.declared.tree.Exp.{Exp}
use Rattle.check_counts.specs.Stars.{has_stray_star}
use Rattle.check_counts.proofs.declarations.rules_have_stray_star.Given as goal

abbrev pub invariant-loop-rule : goal.invariant-loop-rule
invariant-loop-rule l = list_any (λ (rule : List Pat × Exp). has_stray_star l.outputs rule.1) (drop l.rule-index l.rules) ≡ list_any (λ (rule : List Pat × Exp). has_stray_star l.outputs rule.1) l.rules
