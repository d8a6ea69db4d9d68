use Rattle.std.proofs.Common.{◌≡◌, drop}
use Rattle.std.specs.List.{list_any}
use Rattle.check_sizes.specs.inner.Large.{is_large}
use Rattle.check_sizes.proofs.declarations.one_is_large.Given as goal

abbrev pub invariant-loop-ty : goal.invariant-loop-ty
invariant-loop-ty l =
    let some = list_any (is_large l.table.types l.sizes) in
    some ((drop l.ty-index l.tys)) ≡ some (l.tys)
