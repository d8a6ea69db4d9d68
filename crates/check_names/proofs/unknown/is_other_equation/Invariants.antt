use Rattle.std.proofs.Common.{◌≡◌, drop, not}
use Rattle.std.specs.List.{list_any}
use Rattle.std.specs.Str.{bytes_eq}
use Rattle.check_names.proofs.unknown.is_other_equation.Given as goal

abbrev pub invariant-loop-equation : goal.invariant-loop-equation
invariant-loop-equation l = list_any (λ equation. not (bytes_eq equation.0 l.name)) (drop l.equation-index l.equations) ≡ list_any (λ equation. not (bytes_eq equation.0 l.name)) l.equations
