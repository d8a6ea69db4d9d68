-- Types of ports, one after the other.
use Rattle.std.specs.Prelude.{ℕ, List, map, Option, Some}
use Rattle.hume_base.specs.declared.types.Ty.{Tuple as TupleTy}
use Rattle.hume_ast.specs.declared.tree.TyExp.{TyExp}
use Rattle.check_typing.specs.Partial.{given}
use Rattle.check_typing.specs.Declarations.{ports_written}
use Rattle.check_scopes.specs.types.Contexts.{below}
use Rattle.check_scopes.specs.Known.{Known, with_type}
use Rattle.check_tasks.specs.results.ResultStates.{ResultState, with_plain}
use Rattle.check_tasks.specs.results.ResultTasks.{scope_of, types_of, signatures_of}
use Rattle.check_declarations.specs.boxes.inner.Boxes.{with_ports}

-- the types of ports as they are written
abbrev pub types_alone : List (List ℕ × TyExp) → List TyExp
types_alone ports = map (λ port. port.1) ports

-- the types of ports on the stack as one tuple
abbrev pub with_port_tuple : List (List ℕ × TyExp) → Known → Option Known
with_port_tuple ports known = given (ports_written known.2.types ports) (λ tys. Some (with_type (TupleTy tys) known))

-- the state with what is known there
abbrev pub known_in : ResultState → Known → ResultState
known_in state known = with_plain (known, state.0.1, state.0.2, state.0.3) state

-- with the types of the inputs and those of the outputs on the stack
abbrev pub ported : List (List ℕ × TyExp) → List (List ℕ × TyExp) → ResultState → Option ResultState
ported inputs outputs state = given (with_ports inputs outputs state.0.0) (λ known. Some (known_in state known))

-- without the last two types
abbrev pub unported : ResultState → ResultState
unported state = known_in state (scope_of state, below (below (types_of state)), signatures_of state)
