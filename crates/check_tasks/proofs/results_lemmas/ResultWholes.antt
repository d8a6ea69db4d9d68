-- What the tasks of a `case` and of the outputs of a leaf come to.
use native.Mathlib.Omega.{arith}
use denote.Ref.{Bor}
use Rattle.std.proofs.Common.{◌≡◌, ◌≢◌, ℕ, List, [], ◌∷◌, length, Option, None, refl}
use Rattle.hume_base.specs.declared.types.Ty.{Ty, out-Ty}
use Rattle.hume_ast.specs.declared.tree.Pat.{Pat}
use Rattle.hume_ast.specs.declared.tree.Exp.{Exp}
use Rattle.check_scopes.specs.types.Nodes.{type_at}
use Rattle.check_scopes.specs.types.Contexts.{top}
use Rattle.check_typing.specs.Signatures.{Scope}
use Rattle.check_typing.specs.Results.{CoredOut}
use Rattle.check_typing.specs.inner.Walk.{Walk, walk}
use Rattle.check_typing.specs.inner.ResultWalk.{result_walk, valued, case_result_walk, tuple_result_walk, outputs_of, no_outputs, all_outputs, arms_result}
use Rattle.check_tasks.specs.declared.task.Task.TheVariants as plain
use Rattle.check_tasks.specs.declared.task.TypeTask.TheVariants as types
use Rattle.check_tasks.proofs.Given.{by_case, form_steps, reverse_more, taken_back, left_below}
use Rattle.check_tasks.specs.declared.results.task.ResultTask.TheVariants as task
use Rattle.check_tasks.specs.declared.results.task.ResultMake.TheVariants as make
use Rattle.check_tasks.specs.results.ResultStates.{ResultState}
use Rattle.check_tasks.specs.results.inner.Leaves.{leaf_result}
use Rattle.check_tasks.specs.results.ResultTasks.{scope_of, types_of, signatures_of, last_outputs, result_walks, result_arm_walks, result_run, result_of}
use Rattle.check_tasks.proofs.results_lemmas.ResultLengths.{all_outputs_length, arms_result_length}
use Rattle.check_tasks.proofs.results_lemmas.ResultLists.{output_type_at}

ruleset whole_steps = (form_steps, reverse_more)

pub case_result : (st : ResultState) (w : Walk) (a : Bor Exp) (arms : Bor (List (Pat × Exp))) (count : ℕ) → count ≡ length arms.now →
    result_run (task.Plain (plain.Own a) ∷ task.Plain (plain.Types types.RepeatBelow) ∷ task.Arms arms ∷ task.Plain (plain.Types types.Pop)
    ∷ task.Make (make.Alternatives count) ∷ task.Plain (plain.Types types.Pop) ∷ []) st
    ≡ result_of ((case_result_walk (signatures_of st) w (walk (signatures_of st) a.now) (result_arm_walks (signatures_of st) arms.now)).result (scope_of st) (last_outputs st)) st
case_result st w a arms count is =
    by_case ((walk (signatures_of st) a.now).own (scope_of st)) (λ n. grind (arith, whole_steps)) (λ part p.
    by_case (arms_result (signatures_of st) (scope_of st) part.0 (result_arm_walks (signatures_of st) arms.now) (last_outputs st))
    (λ n. grind (arith, whole_steps)) (λ all o.
    let long = arms_result_length (signatures_of st) (scope_of st) part.0 (result_arm_walks (signatures_of st) arms.now) (last_outputs st) all o in
    let taken = taken_back all st.3 count in
    let left = left_below all st.3 count in grind (arith, whole_steps)))

-- where there is one output, a leaf is this output
pub one_output : (st : ResultState) (e : Bor Exp) → length (last_outputs st) ≡ 1 →
    result_run (task.Plain (plain.Types (types.PushPart 0)) ∷ task.Output e ∷ task.Plain (plain.Types types.Pop) ∷ task.Make (make.Outs 1) ∷ []) st
    ≡ result_of (leaf_result (result_walk (signatures_of st) e.now) (scope_of st) (last_outputs st)) st
one_output st e one =
    let same = output_type_at (out-Ty (top (types_of st))) 0 in
    let alone = only (last_outputs st) one in
    by_case ((result_walk (signatures_of st) e.now).output (scope_of st) (type_at (last_outputs st) 0)) (λ n. grind (arith, whole_steps)) (λ out f. grind (arith, whole_steps))
  where
    only : (tys : List Ty) → length tys ≡ 1 → tys ≡ type_at tys 0 ∷ []
    only [] h = grind (arith, whole_steps)
    only (ty ∷ []) h = refl
    only (ty ∷ other ∷ tys) h = let no : ⊥ = omega arith in absurd no

-- where there is another number of them, they are the parts of a tuple
pub more_outputs : (st : ResultState) (w : Walk) (parts : Bor (List Exp)) (count : ℕ) → count ≡ length parts.now → length (last_outputs st) ≢ 1 →
    result_run (task.Outputs parts 0 ∷ task.Make (make.Outs count) ∷ []) st
    ≡ result_of ((tuple_result_walk w (result_walks (signatures_of st) parts.now)).result (scope_of st) (last_outputs st)) st
more_outputs st w parts count is several =
    let each = not_one (λ scope tys. all_outputs scope (result_walks (signatures_of st) parts.now) tys) (last_outputs st) several in
    by_case (all_outputs (scope_of st) (result_walks (signatures_of st) parts.now) (last_outputs st)) (λ n. grind (arith, whole_steps)) (λ outs o.
    let long = all_outputs_length (scope_of st) (result_walks (signatures_of st) parts.now) (last_outputs st) outs o in
    let taken = taken_back outs st.2 count in
    let left = left_below outs st.2 count in grind (arith, whole_steps))
  where
    not_one : (outputs : Scope → List Ty → Option (List CoredOut)) (tys : List Ty) → length tys ≢ 1
        → outputs_of (valued w) outputs (scope_of st) tys ≡ outputs (scope_of st) tys
    not_one outputs [] n = refl
    not_one outputs (ty ∷ []) n = absurd (n refl)
    not_one outputs (ty ∷ other ∷ tys) n = refl

-- what is no tuple isn't a result for another number of outputs than one
pub no_result : (output : Scope → Ty → Option CoredOut) (scope : Scope) (tys : List Ty) → length tys ≢ 1 → outputs_of output no_outputs scope tys ≡ None
no_result output scope [] n = refl
no_result output scope (ty ∷ []) n = absurd (n refl)
no_result output scope (ty ∷ other ∷ tys) n = refl
