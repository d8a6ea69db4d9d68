use Rattle.std.proofs.Common.{◌≡◌, ℕ, List, drop}
use Rattle.std.specs.List.{list_any}
use Rattle.hume_base.specs.declared.limits.TheConstants.{MAX_FIELDS}
use Rattle.hume_ast.specs.declared.tree.TyExp.{TyExp}
use Rattle.check_counts.specs.Miscounts.{has_many}
use Rattle.check_counts.proofs.limits.a_constructor_has_many.Given as goal

abbrev pub invariant-loop-con : goal.invariant-loop-con
invariant-loop-con l = list_any (λ (con : List ℕ × List TyExp). has_many MAX_FIELDS con.1) (drop l.con-index l.cons)
    ≡ list_any (λ (con : List ℕ × List TyExp). has_many MAX_FIELDS con.1) l.cons
