use Rattle.std.proofs.Common.{◌≡◌, take, map}
use Rattle.union_laws.specs.Moving.{moved_function}
use Rattle.std.specs.Prelude.{IfOk}
use Rattle.net_union.proofs.functions.move_functions.Given as goal

abbrev pub invariant-loop-function : goal.invariant-loop-function
invariant-loop-function l = IfOk l.higher (λ made. made ≡ map (moved_function l.fn.moves) (take l.function-index l.functions))
