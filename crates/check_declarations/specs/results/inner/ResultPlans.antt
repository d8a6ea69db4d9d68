-- What tasks come to that were put before others.
use Rattle.std.specs.Prelude.{◌≡◌, ℕ, List, Option, Some, None}
use Rattle.hume_base.specs.declared.types.Ty.{Ty}
use Rattle.hume_ast.specs.declared.tree.Pat.{Pat}
use Rattle.hume_ast.specs.declared.tree.Exp.{Exp}
use Rattle.check_scopes.specs.types.Contexts.{top}
use Rattle.check_typing.specs.Partial.{given}
use Rattle.check_typing.specs.Signatures.{exn_named}
use Rattle.check_typing.specs.inner.Walk.{walk, star_walk}
use Rattle.check_typing.specs.inner.ResultWalk.{ResultWalk, result_walk, leaf_walk, no_outputs, valued, let_result_walk, if_result_walk, case_result_walk, raise_result_walk, raise_with_result_walk}
use Rattle.check_typing.specs.declared.signatures.Signatures.{Signatures}
use Rattle.check_tasks.specs.declared.results.task.ResultTask.{ResultTask}
use Rattle.check_tasks.specs.results.ResultStates.{ResultState}
use Rattle.check_tasks.specs.results.inner.Leaves.{leaf_result}
use Rattle.check_tasks.specs.results.ResultTasks.{scope_of, types_of, last_outputs, result_arm_walks, result_run, result_of, output_of}

-- what is found of a result by its form; what the other walk finds of the whole doesn't matter
unfoldable pub let_found : Signatures → List ℕ → Exp → Exp → ResultWalk
let_found s name a b = let_result_walk star_walk name (walk s a) (result_walk s b)

unfoldable pub if_found : Signatures → Exp → Exp → Exp → ResultWalk
if_found s test a b = if_result_walk star_walk (walk s test) (result_walk s a) (result_walk s b)

unfoldable pub case_found : Signatures → Exp → List (Pat × Exp) → ResultWalk
case_found s a arms = case_result_walk s star_walk (walk s a) (result_arm_walks s arms)

abbrev pub raise_found : Signatures → List ℕ → ResultWalk
raise_found s name = raise_result_walk s name star_walk

unfoldable pub raise_with_found : Signatures → List ℕ → Exp → ResultWalk
raise_with_found s name a = raise_with_result_walk s name star_walk (walk s a)

unfoldable pub raised_found : Signatures → List ℕ → Option Exp → ResultWalk
raised_found s name None = raise_found s name
raised_found s name (Some a) = raise_with_found s name a

-- from the state, the tasks come to the result that is found, and then to the others
abbrev pub DoesResult : ResultWalk → ResultState → List ResultTask → List ResultTask → Type 0
DoesResult found state others tasks = result_run tasks state ≡ given (result_of (found.result (scope_of state) (last_outputs state)) state) (result_run others)

-- the same of an output
abbrev pub DoesOutput : ResultWalk → ResultState → List ResultTask → List ResultTask → Type 0
DoesOutput found state others tasks = result_run tasks state ≡ given (output_of (found.output (scope_of state) (top (types_of state))) state)
    (result_run others)

-- no result is found
abbrev pub HasNoResult : ResultWalk → ResultState → Type 0
HasNoResult found state = found.result (scope_of state) (last_outputs state) ≡ None

-- a result ends at the expression: it is one output or several
abbrev pub EndsHere : ResultWalk → ResultState → Type 0
EndsHere found state = found.result (scope_of state) (last_outputs state) ≡ leaf_result found (scope_of state) (last_outputs state)

-- a result ends at the expression, and it has no parts that are outputs
abbrev pub IsLeaf : ResultWalk → Type 0
IsLeaf found = found ≡ leaf_walk found.walk found.output no_outputs

-- an output of this form is a value
abbrev pub IsValued : Signatures → Exp → Type 0
IsValued s e = (result_walk s e).output ≡ valued (walk s e)

-- what the exception of a name carries
abbrev pub carried_by : Signatures → List ℕ → Option Ty
carried_by s name = given (exn_named name s) (λ found. found.1.carries)
