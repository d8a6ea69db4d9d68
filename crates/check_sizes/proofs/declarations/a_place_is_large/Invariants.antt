use Rattle.std.proofs.Common.{◌≡◌, ℕ, List, map, drop}
use Rattle.std.specs.List.{list_any}
use Rattle.hume_ast.specs.declared.tree.TyExp.{TyExp}
use Rattle.check_sizes.specs.inner.Large.{is_large}
use Rattle.check_sizes.proofs.declarations.a_place_is_large.Given as goal

abbrev pub invariant-loop-place : goal.invariant-loop-place
invariant-loop-place l =
    let some = list_any (is_large l.table.types l.sizes) in
    some (map (λ (place : List ℕ × TyExp). place.1) (drop l.place-index l.places)) ≡ some (map (λ (place : List ℕ × TyExp). place.1) l.places)
