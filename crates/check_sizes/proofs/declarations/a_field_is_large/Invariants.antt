use Rattle.std.proofs.Common.{◌≡◌, ℕ, List, drop}
use Rattle.std.specs.List.{list_any, flat_map}
use Rattle.hume_ast.specs.declared.tree.TyExp.{TyExp}
use Rattle.check_sizes.specs.inner.Large.{is_large}
use Rattle.check_sizes.proofs.declarations.a_field_is_large.Given as goal

abbrev pub invariant-loop-con : goal.invariant-loop-con
invariant-loop-con l =
    let some = list_any (is_large l.table.types l.sizes) in
    some (flat_map (λ (con : List ℕ × List TyExp). con.1) (drop l.con-index l.cons)) ≡ some (flat_map (λ (con : List ℕ × List TyExp). con.1) l.cons)
