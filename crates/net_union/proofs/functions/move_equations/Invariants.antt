use Rattle.std.proofs.Common.{◌≡◌, take, map}
use Rattle.union_laws.specs.Moving.{moved_equation}
use Rattle.std.specs.Prelude.{IfOk}
use Rattle.net_union.proofs.functions.move_equations.Given as goal

abbrev pub invariant-loop-equation : goal.invariant-loop-equation
invariant-loop-equation l = IfOk l.higher (λ made. made ≡ map (moved_equation l.fn.moves) (take l.equation-index l.equations))
