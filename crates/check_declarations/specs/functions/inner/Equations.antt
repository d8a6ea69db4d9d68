-- Equations of the function whose types are the last ones of a state: those that it takes as one tuple, and on top of it the one
-- that it gives.
use Rattle.std.specs.Prelude.{◌++◌, ◌||◌, Bool, List, Option, Some, None}
use Rattle.hume_ast.specs.declared.tree.Pat.{Pat}
use Rattle.hume_ast.specs.declared.tree.Exp.{Exp}
use Rattle.typed_core.specs.declared.typed_tree.TypedEquation.{TypedEquation}
use Rattle.check_scopes.specs.types.Contexts.{top, below}
use Rattle.check_typing.specs.Partial.{given}
use Rattle.check_typing.specs.Signatures.{Scope}
use Rattle.check_typing.specs.Patterns.{CoredPat, patterns}
use Rattle.check_typing.specs.Cores.{Cored}
use Rattle.check_typing.specs.Declarations.{CoredEquation, WrittenEquation, some_so, cores_alone, equation_core}
use Rattle.check_typing.specs.inner.Walk.{walk, tuple_parts}
use Rattle.check_typing.specs.inner.DeclarationWalk.{found_of_all}
use Rattle.check_tasks.specs.States.{State, with_core, with_all_bound}

-- the variables and the cores of the patterns, and the core of the body
abbrev pub equation_parts : State → List Pat → Exp → Option ((Scope × List CoredPat) × Cored)
equation_parts state pats body = given (tuple_parts (top (below state.0.1))) (λ params. given (patterns state.0.2 pats params) (λ bound.
    given ((walk state.0.2 body).against (state.0.0 ++ bound.0) (top state.0.1)) (λ core. Some (bound, core))))

-- the variables of the patterns in scope, and the cores of the patterns and of the body on the stacks
abbrev pub with_equation : List Pat → Exp → State → Option State
with_equation pats body state = given (equation_parts state pats body) (λ parts. Some (with_core parts.1 (with_all_bound parts.0.0 parts.0.1 state)))

-- the core of the equation
abbrev pub equation_at : State → List Pat → Exp → Option CoredEquation
equation_at state pats body = given (equation_parts state pats body) (λ parts. Some (equation_core parts.0.1 parts.1))

-- the cores of several equations
abbrev pub equations_at : State → List WrittenEquation → Option (List CoredEquation)
equations_at state equations = found_of_all (λ (equation : WrittenEquation). equation_at state equation.1 equation.2) equations

-- cores, and those of others behind them
abbrev pub together : List TypedEquation × Bool → Option (List CoredEquation) → Option (List TypedEquation × Bool)
together found None = None
together found (Some cs) = Some (found.0 ++ cores_alone cs, found.1 || some_so cs)
