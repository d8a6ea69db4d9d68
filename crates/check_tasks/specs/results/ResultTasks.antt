-- What tasks of results do, one after the other: they find nothing, or go from state to state.
use Rattle.std.specs.Prelude.{List, [], ◌∷◌, map, take, drop, reverse, Option, Some}
use Rattle.hume_base.specs.declared.types.Ty.{Ty, out-Ty}
use Rattle.hume_base.specs.declared.types.Ty.TheOpen.{Ty-F}
use Rattle.hume_ast.specs.declared.tree.Pat.{Pat}
use Rattle.hume_ast.specs.declared.tree.Exp.{Exp}
use Rattle.check_scopes.specs.types.Contexts.{top, below, last_type}
use Rattle.check_typing.specs.Partial.{given}
use Rattle.check_typing.specs.Signatures.{Scope}
use Rattle.check_typing.specs.Results.{CoredRes, CoredOut, absent_out, value_out, outs_core, let_result_core, if_result_core, case_result_core, raise_result_core, raise_with_result_core}
use Rattle.check_typing.specs.inner.ResultWalk.{ResultWalk, result_walk, outputs_of, all_outputs, arms_result}
use Rattle.check_typing.specs.declared.signatures.Signatures.{Signatures}
use Rattle.check_cores.specs.Stacks.{top_pattern}
use Rattle.check_cores.specs.results.Stacks.{top_result}
use Rattle.check_tasks.specs.States.{State, of_cores}
use Rattle.check_tasks.specs.Tasks.{last, step}
use Rattle.check_tasks.specs.declared.results.task.ResultTask.{ResultTask}
use Rattle.check_tasks.specs.declared.results.task.ResultTask.TheVariants as task
use Rattle.check_tasks.specs.declared.results.task.ResultMake.{ResultMake}
use Rattle.check_tasks.specs.declared.results.task.ResultMake.TheVariants as make
use Rattle.check_tasks.specs.results.ResultStates.{ResultState, with_plain, with_result, with_output, with_outputs, with_result_arms}

-- the types of the outputs: the parts of a tuple; no other type has any
abbrev pub part_types : Ty-F Ty → List Ty
part_types (Ty-F.Tuple tys) = tys
part_types _ = []

abbrev pub output_types : Ty → List Ty
output_types ty = part_types (out-Ty ty)

-- what is known where a result stands
abbrev pub scope_of : ResultState → Scope
scope_of state = state.0.0.0

abbrev pub types_of : ResultState → List Ty
types_of state = state.0.0.1

abbrev pub signatures_of : ResultState → Signatures
signatures_of state = state.0.0.2

-- the types of the outputs of the last type
abbrev pub last_outputs : ResultState → List Ty
last_outputs state = output_types (top (types_of state))

abbrev pub result_walks : Signatures → List Exp → List ResultWalk
result_walks signatures parts = map (result_walk signatures) parts

abbrev pub result_arm_walks : Signatures → List (Pat × Exp) → List (Pat × ResultWalk)
result_arm_walks signatures arms = map (λ arm. (arm.0, result_walk signatures arm.1)) arms

-- without the last core
abbrev pub core_taken : ResultState → State
core_taken state = of_cores (drop 1 state.0.1) state.0

-- without the last pattern
abbrev pub pattern_taken : ResultState → State
pattern_taken state = (state.0.0, state.0.1, drop 1 state.0.2, state.0.3)

abbrev pub make_step : ResultMake → ResultState → ResultState
make_step make.Absent state = with_output absent_out state
make_step make.Value state = (core_taken state, state.1, value_out (last state.0) ∷ state.2, state.3)
make_step (make.Outs count) state = (state.0, outs_core (reverse (take count state.2)) ∷ state.1, drop count state.2, state.3)
make_step make.Binding state =
    (core_taken state, let_result_core (last_type (scope_of state)) (last state.0) (top_result state.1) ∷ drop 1 state.1, state.2, state.3)
make_step make.Branches state =
    (core_taken state, if_result_core (last state.0) (top_result (drop 1 state.1)) (top_result state.1) ∷ drop 2 state.1, state.2, state.3)
make_step make.Arm state = (pattern_taken state, drop 1 state.1, state.2, (top_pattern state.0.2, top_result state.1) ∷ state.3)
make_step (make.Alternatives count) state =
    (core_taken state, case_result_core (top (types_of state)) (last state.0) (reverse (take count state.3)) ∷ state.1, state.2, drop count state.3)
make_step (make.Raise number) state = with_result (raise_result_core number) state
make_step (make.RaiseWith number) state = (core_taken state, raise_with_result_core number (last state.0) ∷ state.1, state.2, state.3)

-- with the result that is found
abbrev pub result_of : Option CoredRes → ResultState → Option ResultState
result_of found state = given found (λ c. Some (with_result c state))

-- with the output that is found
abbrev pub output_of : Option CoredOut → ResultState → Option ResultState
output_of found state = given found (λ out. Some (with_output out state))

abbrev pub result_step : ResultTask → ResultState → Option ResultState
result_step (task.Result e) state = result_of ((result_walk (signatures_of state) e.now).result (scope_of state) (last_outputs state)) state
result_step (task.Output e) state = output_of ((result_walk (signatures_of state) e.now).output (scope_of state) (top (types_of state))) state
result_step (task.Outputs parts first) state =
    given (all_outputs (scope_of state) (result_walks (signatures_of state) parts.now) (drop first (last_outputs state)))
    (λ outs. Some (with_outputs outs state))
result_step (task.Arms arms) state =
    given (arms_result (signatures_of state) (scope_of state) (top (below (types_of state))) (result_arm_walks (signatures_of state) arms.now)
    (last_outputs state))
    (λ cs. Some (with_result_arms cs state))
result_step (task.Plain t) state = given (step t state.0) (λ plain. Some (with_plain plain state))
result_step (task.Make m) state = Some (make_step m state)

-- one task after the other
abbrev pub result_run : List ResultTask → ResultState → Option ResultState
result_run [] state = Some state
result_run (t ∷ ts) state = given (result_step t state) (λ next. result_run ts next)
