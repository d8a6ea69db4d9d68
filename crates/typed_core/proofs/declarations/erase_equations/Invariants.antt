use Rattle.std.proofs.Common.{◌≡◌, take, map}
use Rattle.typed_core.specs.Erasing.{erased_equation}
use Rattle.typed_core.proofs.declarations.erase_equations.Given as goal

abbrev pub invariant-loop-equation : goal.invariant-loop-equation
invariant-loop-equation l = l.core ≡ map erased_equation (take l.equation-index l.equations)
