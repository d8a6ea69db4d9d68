use Rattle.std.proofs.Common.{◌≡◌, drop}
use Rattle.std.specs.List.{list_any, flat_map}
use Rattle.check_rules.specs.SizeRules.{written_in}
use Rattle.check_typing.specs.Declarations.{WrittenEquation}
use Rattle.check_sizes.specs.inner.Large.{is_large}
use Rattle.check_sizes.proofs.declarations.an_equation_has.Given as goal

abbrev pub invariant-loop-equation : goal.invariant-loop-equation
invariant-loop-equation l =
    let some = list_any (is_large l.table.types l.sizes) in
    some (flat_map (λ (equation : WrittenEquation). written_in equation.2) (drop l.equation-index l.equations)) ≡ some (flat_map (λ (equation : WrittenEquation). written_in equation.2) l.equations)
