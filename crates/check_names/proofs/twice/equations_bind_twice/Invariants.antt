use Rattle.std.proofs.Common.{◌≡◌, drop}
use Rattle.std.specs.List.{list_any}
use Rattle.check_names.specs.Twice.{clause_binds_twice}
use Rattle.check_names.proofs.twice.equations_bind_twice.Given as goal

abbrev pub invariant-loop-equation : goal.invariant-loop-equation
invariant-loop-equation l = list_any (λ equation. clause_binds_twice equation.1 equation.2) (drop l.equation-index l.equations) ≡ list_any (λ equation. clause_binds_twice equation.1 equation.2) l.equations
