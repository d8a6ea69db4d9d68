use Rattle.std.proofs.Common.{◌≡◌, ℕ, List, drop}
use Rattle.std.specs.List.{list_any}
use Rattle.hume_ast.specs.declared.tree.Pat.{Pat}
use Rattle.hume_ast.specs.declared.tree.Exp.{Exp}
use Rattle.check_counts.specs.Stars.{has_star}
use Rattle.check_counts.proofs.declarations.equations_have_star.Given as goal

abbrev pub invariant-loop-equation : goal.invariant-loop-equation
invariant-loop-equation l = list_any (λ (equation : List ℕ × List Pat × Exp). has_star equation.2) (drop l.equation-index l.equations) ≡ list_any (λ (equation : List ℕ × List Pat × Exp). has_star equation.2) l.equations
