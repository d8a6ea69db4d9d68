use Rattle.std.proofs.Common.{◌≡◌, ℕ, List, drop}
use Rattle.std.specs.List.{list_any}
use Rattle.hume_ast.specs.declared.tree.TyExp.{TyExp}
use Rattle.check_counts.specs.CountRules.{some_type_miscounts}
use Rattle.check_counts.proofs.declarations.constructors_miscount.Given as goal

abbrev pub invariant-loop-con : goal.invariant-loop-con
invariant-loop-con l = list_any (λ (con : List ℕ × List TyExp). some_type_miscounts con.1) (drop l.con-index l.cons) ≡ list_any (λ (con : List ℕ × List TyExp). some_type_miscounts con.1) l.cons
