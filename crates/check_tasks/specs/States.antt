-- The states between tasks.
use Rattle.std.specs.Prelude.{List, ◌∷◌, ◌++◌, reverse}
use Rattle.hume_base.specs.declared.types.Ty.{Ty}
use Rattle.check_typing.specs.Signatures.{Scope}
use Rattle.check_typing.specs.Patterns.{CoredPat, Bound}
use Rattle.check_typing.specs.Cores.{Cored, CoredArm}
use Rattle.check_typing.specs.declared.signatures.Signatures.{Signatures}

-- the variables in scope, the stack of types and the signatures; and the stacks of cores of expressions, of patterns and of
-- alternatives
abbrev pub State : Type 0
State = (Scope × List Ty × Signatures) × List Cored × List CoredPat × List CoredArm

-- the variables in scope
abbrev pub scope_in : State → Scope
scope_in state = state.0.0

-- the stack of types
abbrev pub types_in : State → List Ty
types_in state = state.0.1

abbrev pub signatures_in : State → Signatures
signatures_in state = state.0.2

-- with other types on the stack
abbrev pub with_types : List Ty → State → State
with_types tys state = ((state.0.0, tys, state.0.2), state.1, state.2, state.3)

-- with other cores on the stack
abbrev pub of_cores : List Cored → State → State
of_cores cs state = (state.0, cs, state.2, state.3)

-- with a type and a core on the stacks
abbrev pub with_typed : Ty → Cored → State → State
with_typed ty core state = ((state.0.0, ty ∷ state.0.1, state.0.2), core ∷ state.1, state.2, state.3)

-- with a core on the stack
abbrev pub with_core : Cored → State → State
with_core core state = (state.0, core ∷ state.1, state.2, state.3)

-- with cores on the stack, the last of them last
abbrev pub with_cores : List Cored → State → State
with_cores cs state = (state.0, reverse cs ++ state.1, state.2, state.3)

-- with types and cores on the stacks
abbrev pub with_all_typed : List Ty → List Cored → State → State
with_all_typed tys cs state = ((state.0.0, reverse tys ++ state.0.1, state.0.2), reverse cs ++ state.1, state.2, state.3)

-- with alternatives on the stack, the last of them last
abbrev pub with_arms : List CoredArm → State → State
with_arms arms state = (state.0, state.1, state.2, reverse arms ++ state.3)

-- with the variables of a pattern in scope, and its core on the stack
abbrev pub with_bound : Bound → State → State
with_bound bound state = ((state.0.0 ++ bound.0, state.0.1, state.0.2), state.1, bound.1 ∷ state.2, state.3)

-- with the variables of patterns in scope, and their cores on the stack, the last of them last
abbrev pub with_all_bound : Scope → List CoredPat → State → State
with_all_bound vars cs state = ((state.0.0 ++ vars, state.0.1, state.0.2), state.1, reverse cs ++ state.2, state.3)
