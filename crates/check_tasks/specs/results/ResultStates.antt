-- The states between tasks of results.
use Rattle.std.specs.Prelude.{List, ◌∷◌, ◌++◌, reverse}
use Rattle.check_typing.specs.Results.{CoredRes, CoredOut, CoredResArm}
use Rattle.check_tasks.specs.States.{State}

-- the state of the expressions; and the stacks of cores of results, of outputs and of alternatives
abbrev pub ResultState : Type 0
ResultState = State × List CoredRes × List CoredOut × List CoredResArm

-- with another state of the expressions
abbrev pub with_plain : State → ResultState → ResultState
with_plain plain state = (plain, state.1, state.2, state.3)

-- with a result on the stack
abbrev pub with_result : CoredRes → ResultState → ResultState
with_result c state = (state.0, c ∷ state.1, state.2, state.3)

-- with an output on the stack
abbrev pub with_output : CoredOut → ResultState → ResultState
with_output out state = (state.0, state.1, out ∷ state.2, state.3)

-- with outputs on the stack, the last of them last
abbrev pub with_outputs : List CoredOut → ResultState → ResultState
with_outputs outs state = (state.0, state.1, reverse outs ++ state.2, state.3)

-- with alternatives on the stack, the last of them last
abbrev pub with_result_arms : List CoredResArm → ResultState → ResultState
with_result_arms arms state = (state.0, state.1, state.2, reverse arms ++ state.3)
