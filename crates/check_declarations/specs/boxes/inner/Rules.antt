-- Rules of the box whose types are the last ones of a state: those of its inputs as one tuple, and on top of it those of its
-- outputs.
use Rattle.std.specs.Prelude.{◌≡◌, ◌++◌, ◌||◌, ℕ, Bool, List, length, drop, Option, Some, None}
use Rattle.hume_base.specs.declared.types.Ty.{out-Ty}
use Rattle.hume_ast.specs.declared.tree.Pat.{Pat}
use Rattle.hume_ast.specs.declared.tree.Pat.TheOpen.{Pat-F}
use Rattle.hume_ast.specs.declared.tree.Exp.{Exp}
use Rattle.hume_model.specs.declared.core_tree.InPat.{InPat}
use Rattle.hume_model.specs.declared.core_tree.InPat.TheVariants as in_pat
use Rattle.check_scopes.specs.types.Contexts.{top, below, part_at}
use Rattle.check_typing.specs.Partial.{given}
use Rattle.check_typing.specs.Signatures.{Scope}
use Rattle.check_typing.specs.Patterns.{CoredPosition, position, positions}
use Rattle.check_typing.specs.Results.{CoredRes}
use Rattle.check_typing.specs.Declarations.{CoredRule, WrittenRule, some_so, cores_alone, rule_core}
use Rattle.check_typing.specs.inner.Walk.{tuple_parts}
use Rattle.check_typing.specs.inner.ResultWalk.{result_walk}
use Rattle.check_typing.specs.inner.DeclarationWalk.{found_of_all}
use Rattle.check_tasks.specs.States.{State}
use Rattle.check_tasks.specs.results.ResultStates.{ResultState, with_plain, with_result}
use Rattle.check_tasks.specs.results.ResultTasks.{scope_of, types_of, signatures_of, last_outputs}

-- with variables in scope
abbrev pub with_variables : Scope → State → State
with_variables vars state = ((state.0.0 ++ vars, state.0.1, state.0.2), state.1, state.2, state.3)

-- what stands at a position without a pattern
abbrev pub bare : Pat-F Pat → Option InPat
bare Pat-F.Star = Some in_pat.Star
bare Pat-F.AnyStar = Some in_pat.AnyStar
bare Pat-F.Any = Some in_pat.Any
bare _ = None

-- a core, and the variables in scope
abbrev pub found_at : State → Option (Scope × CoredPosition) → Option (CoredPosition × State)
found_at state found = given found (λ p. Some (p.1, with_variables p.0 state))

-- what stands at a position, against the last type
abbrev pub with_position : Pat → State → Option (CoredPosition × State)
with_position pat state = found_at state (position state.0.2 pat (top state.0.1))

-- the same, against a part of the last type
abbrev pub with_position_of : ℕ → Pat → State → Option (CoredPosition × State)
with_position_of place pat state = found_at state (position state.0.2 pat (part_at place (out-Ty (top state.0.1))))

-- the last type is a tuple of so many parts
abbrev pub HasParts : ℕ → State → Type 0
HasParts count state = given (tuple_parts (top state.0.1)) (λ tys. Some (length tys)) ≡ Some count

-- cores, and behind them those of the other positions, against the parts of the last type from a place on
abbrev pub with_others : List InPat × Bool → ℕ → List Pat → State → Option ((List InPat × Bool) × State)
with_others found place pats state = given (tuple_parts (top state.0.1)) (λ tys. given (positions state.0.2 pats (drop place tys)) (λ all.
    Some ((found.0 ++ cores_alone all.1, found.1 || some_so all.1), with_variables all.0 state)))

-- the cores of the positions, against the parts of the last type
abbrev pub with_positions : List Pat → State → Option ((List InPat × Bool) × State)
with_positions pats state = given (tuple_parts (top state.0.1)) (λ tys. given (positions state.0.2 pats tys) (λ all.
    Some ((cores_alone all.1, some_so all.1), with_variables all.0 state)))

-- the variables and the cores of the positions, and the core of the result
abbrev pub rule_parts : ResultState → List Pat → Exp → Option ((Scope × List CoredPosition) × CoredRes)
rule_parts state pats e = given (tuple_parts (top (below (types_of state)))) (λ ins. given (positions (signatures_of state) pats ins) (λ bound.
    given ((result_walk (signatures_of state) e).result (scope_of state ++ bound.0) (last_outputs state)) (λ c. Some (bound, c))))

-- the cores of the positions; and the variables in scope, and the core of the result on the stack
abbrev pub with_rule : List Pat → Exp → ResultState → Option ((List InPat × Bool) × ResultState)
with_rule pats e state = given (rule_parts state pats e) (λ parts.
    Some ((cores_alone parts.0.1, some_so parts.0.1), with_result parts.1 (with_plain (with_variables parts.0.0 state.0) state)))

-- the core of the rule
abbrev pub rule_at : ResultState → List Pat → Exp → Option CoredRule
rule_at state pats e = given (rule_parts state pats e) (λ parts. Some (rule_core parts.0.1 parts.1))

-- the cores of several rules
abbrev pub rules_at : ResultState → List WrittenRule → Option (List CoredRule)
rules_at state rules = found_of_all (λ (rule : WrittenRule). rule_at state rule.0 rule.1) rules

-- cores, and those of others behind them
abbrev pub together : {A : Type 0} → List A × Bool → Option (List (A × Bool)) → Option (List A × Bool)
together found None = None
together found (Some cs) = Some (found.0 ++ cores_alone cs, found.1 || some_so cs)
