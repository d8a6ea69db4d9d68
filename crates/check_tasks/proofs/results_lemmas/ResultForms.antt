-- What the tasks of each form of result come to: just what the walk says of the form.
use native.Mathlib.Omega.{arith}
use Rattle.std.proofs.Common.{◌≡◌, ℕ, List, [], ◌∷◌, ◌++◌, length, Some, None}
use denote.Ref.{Bor}
use Rattle.hume_ast.specs.declared.tree.Exp.{Exp}
use Rattle.hume_base.specs.declared.types.Ty.{Ty, Bool as BoolTy}
use Rattle.hume_model.specs.declared.core_tree.ExnDef.{ExnDef}
use Rattle.check_scopes.specs.types.Contexts.{top}
use Rattle.check_typing.specs.Signatures.{exn_named}
use Rattle.check_typing.specs.inner.Walk.{Walk, walk}
use Rattle.check_typing.specs.inner.ResultWalk.{result_walk, let_result_walk, if_result_walk, raise_result_walk, raise_with_result_walk, valued}
use Rattle.check_tasks.specs.declared.task.Task.TheVariants as plain
use Rattle.check_tasks.specs.declared.task.TypeTask.TheVariants as types
use Rattle.check_tasks.proofs.Given.{by_case, form_steps}
use Rattle.check_tasks.specs.declared.results.task.ResultTask.TheVariants as task
use Rattle.check_tasks.specs.declared.results.task.ResultMake.TheVariants as make
use Rattle.check_tasks.specs.results.ResultStates.{ResultState}
use Rattle.check_tasks.specs.results.ResultTasks.{scope_of, types_of, signatures_of, last_outputs, result_run, result_of, output_of}

pub let_result : (st : ResultState) (w : Walk) (a b : Bor Exp) (name : Bor (List ℕ)) →
    result_run (task.Plain (plain.Own a) ∷ task.Plain (plain.Enter name) ∷ task.Result b ∷ task.Make make.Binding
    ∷ task.Plain (plain.Leave (length (scope_of st))) ∷ []) st
    ≡ result_of ((let_result_walk w name.now (walk (signatures_of st) a.now) (result_walk (signatures_of st) b.now)).result (scope_of st) (last_outputs st)) st
let_result st w a b name =
    by_case ((walk (signatures_of st) a.now).own (scope_of st)) (λ n. grind (arith, form_steps)) (λ part h.
    by_case ((result_walk (signatures_of st) b.now).result (scope_of st ++ (name.now, part.0) ∷ []) (last_outputs st))
    (λ n. grind (arith, form_steps)) (λ body g. grind (arith, form_steps)))

pub if_result : (st : ResultState) (w : Walk) (t a b : Bor Exp) →
    result_run (task.Plain (plain.Types types.PushBool) ∷ task.Plain (plain.Against t) ∷ task.Plain (plain.Types types.Pop) ∷ task.Result a ∷ task.Result b
    ∷ task.Make make.Branches ∷ []) st
    ≡ result_of ((if_result_walk w (walk (signatures_of st) t.now) (result_walk (signatures_of st) a.now) (result_walk (signatures_of st) b.now)).result (scope_of st) (last_outputs st)) st
if_result st w t a b =
    by_case ((walk (signatures_of st) t.now).against (scope_of st) BoolTy) (λ n. grind (arith, form_steps)) (λ test h.
    by_case ((result_walk (signatures_of st) a.now).result (scope_of st) (last_outputs st)) (λ n. grind (arith, form_steps)) (λ left f.
    by_case ((result_walk (signatures_of st) b.now).result (scope_of st) (last_outputs st)) (λ n. grind (arith, form_steps)) (λ right g. grind (arith, form_steps))))

pub raise_result : (st : ResultState) (w : Walk) (name : List ℕ) (number : ℕ) (exn : ExnDef) → exn_named name (signatures_of st) ≡ Some (number, exn) → exn.carries ≡ None →
    result_run (task.Make (make.Raise number) ∷ []) st
    ≡ result_of ((raise_result_walk (signatures_of st) name w).result (scope_of st) (last_outputs st)) st
raise_result st w name number exn named carries = grind (arith, form_steps)

pub raise_with_result : (st : ResultState) (w : Walk) (name : List ℕ) (a : Bor Exp) (number : ℕ) (exn : ExnDef) (carried : Ty)
    → exn_named name (signatures_of st) ≡ Some (number, exn) → exn.carries ≡ Some carried →
    result_run (task.Plain (plain.Against a) ∷ task.Plain (plain.Types types.Pop) ∷ task.Make (make.RaiseWith number) ∷ [])
    (((st.0.0.0, carried ∷ st.0.0.1, st.0.0.2), st.0.1, st.0.2, st.0.3), st.1, st.2, st.3)
    ≡ result_of ((raise_with_result_walk (signatures_of st) name w (walk (signatures_of st) a.now)).result (scope_of st) (last_outputs st)) st
raise_with_result st w name a number exn carried named carries =
    by_case ((walk (signatures_of st) a.now).against (scope_of st) carried) (λ n. grind (arith, form_steps)) (λ part o. grind (arith, form_steps))

-- an output that is a value
pub value_output : (st : ResultState) (e : Bor Exp) →
    result_run (task.Plain (plain.Against e) ∷ task.Make make.Value ∷ []) st
    ≡ output_of (valued (walk (signatures_of st) e.now) (scope_of st) (top (types_of st))) st
value_output st e =
    by_case ((walk (signatures_of st) e.now).against (scope_of st) (top (types_of st))) (λ n. grind (arith, form_steps)) (λ part o. grind (arith, form_steps))
