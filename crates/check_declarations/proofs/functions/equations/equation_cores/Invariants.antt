use Rattle.std.proofs.Common.{◌≡◌, [], false, drop}
use Rattle.check_declarations.specs.functions.inner.Equations.{equations_at, together}
use Rattle.check_declarations.proofs.functions.equations.equation_cores.Given as goal

-- the cores so far and those of what is left are those of all
abbrev pub invariant-loop-equation : goal.invariant-loop-equation
invariant-loop-equation l = record {
  state : l.at ≡ l.fn.at;
  so_far : together (l.cores, l.some_too_wide) (equations_at l.fn.at (drop l.equation-index l.equations)) ≡ together ([], false) (equations_at l.fn.at l.equations);
}
