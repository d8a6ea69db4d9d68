-- Handlers of the box whose types are the last ones of a state.
use Rattle.std.specs.Prelude.{◌++◌, ℕ, Bool, List, Option, Some}
use Rattle.hume_ast.specs.declared.tree.Pat.{Pat, out-Pat}
use Rattle.hume_model.specs.declared.core_tree.ExnDef.{ExnDef}
use Rattle.check_scopes.specs.types.Contexts.{top, below}
use Rattle.check_typing.specs.Partial.{given}
use Rattle.check_typing.specs.Signatures.{Scope, exn_named}
use Rattle.check_typing.specs.Results.{CoredRes}
use Rattle.check_typing.specs.Declarations.{CoredHandler, WrittenHandler, carried_layer, carried_vars, handler_core}
use Rattle.check_typing.specs.inner.ResultWalk.{result_walk}
use Rattle.check_typing.specs.inner.DeclarationWalk.{found_of_all}
use Rattle.check_scopes.specs.Known.{Known}
use Rattle.check_tasks.specs.results.ResultStates.{ResultState, with_plain, with_result}
use Rattle.check_tasks.specs.results.ResultTasks.{scope_of, signatures_of, last_outputs}
use Rattle.check_declarations.specs.boxes.inner.Rules.{with_variables}

-- what the pattern says of what is carried, of the last type: whether it binds that, and the variable in scope; the type goes
abbrev pub with_carried : Pat → Known → Option (Bool × Known)
with_carried pat known = given (carried_layer (top known.1) (out-Pat pat)) (λ carried. Some (carried.1, (known.0 ++ carried.0, below known.1, known.2)))

-- the number of the exception and whether what it carries is bound, and the variables in scope
abbrev pub with_caught : List ℕ → Option Pat → Known → Option ((ℕ × Bool) × Known)
with_caught name pat known = given (exn_named name known.2) (λ (found : ℕ × ExnDef). given (carried_vars found.1.carries pat) (λ carried.
    Some ((found.0, carried.1), (known.0 ++ carried.0, known.1, known.2))))

-- the number of the exception, the variables and whether there are any, and the core of the result
abbrev pub handler_parts : ResultState → WrittenHandler → Option ((ℕ × Scope × Bool) × CoredRes)
handler_parts state handler = given (exn_named handler.0 (signatures_of state))
    (λ (found : ℕ × ExnDef). given (carried_vars found.1.carries handler.1) (λ carried.
    given ((result_walk (signatures_of state) handler.2).result (scope_of state ++ carried.0) (last_outputs state))
    (λ c. Some ((found.0, carried.0, carried.1), c))))

-- the number of the exception and whether what it carries is bound; and the variables in scope, and the core of the result on the
-- stack
abbrev pub with_handler : WrittenHandler → ResultState → Option ((ℕ × Bool) × ResultState)
with_handler handler state = given (handler_parts state handler) (λ parts.
    Some ((parts.0.0, parts.0.2), with_result parts.1 (with_plain (with_variables parts.0.1 state.0) state)))

-- the core of the handler
abbrev pub handler_at : ResultState → WrittenHandler → Option CoredHandler
handler_at state handler = given (handler_parts state handler) (λ parts. Some (handler_core parts.0.0 parts.0.2 parts.1))

-- the cores of several handlers
abbrev pub handlers_at : ResultState → List WrittenHandler → Option (List CoredHandler)
handlers_at state handlers = found_of_all (handler_at state) handlers
