use Rattle.std.proofs.Common.{◌≡◌, ℕ, List, Option, drop}
use Rattle.std.specs.List.{list_any}
use Rattle.hume_ast.specs.declared.tree.Pat.{Pat}
use Rattle.hume_ast.specs.declared.tree.Exp.{Exp}
use Rattle.check_counts.specs.Stars.{has_stray_star}
use Rattle.check_counts.proofs.declarations.handlers_have_stray_star.Given as goal

abbrev pub invariant-loop-handler : goal.invariant-loop-handler
invariant-loop-handler l = list_any (λ (handler : List ℕ × Option Pat × Exp). has_stray_star l.outputs handler.2) (drop l.handler-index l.handlers) ≡ list_any (λ (handler : List ℕ × Option Pat × Exp). has_stray_star l.outputs handler.2) l.handlers
