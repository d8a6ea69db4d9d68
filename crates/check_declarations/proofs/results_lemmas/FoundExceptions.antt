-- Exceptions that are found.
use native.Mathlib.Omega.{arith}
use denote.Ref.{Bor}
use Rattle.std.proofs.Common.{◌≡◌, ℕ, List, [], ◌∷◌, Some, None, true, false, refl}
use Rattle.std.proofs.lemmas.Grind.{common_steps}
use Rattle.hume_ast.specs.declared.tree.Exp.{Exp}
use Rattle.check_typing.specs.Signatures.{exn_named}
use Rattle.check_typing.specs.inner.Walk.{walk}
use Rattle.check_typing.specs.declared.signatures.Signatures.{Signatures}
use Rattle.check_scopes.specs.Known.{with_exception}
use Rattle.check_tasks.specs.declared.task.Task.TheVariants as plain
use Rattle.check_tasks.specs.declared.task.TypeTask.TheVariants as types
use Rattle.check_tasks.proofs.Given.{by_case, form_steps}
use Rattle.check_tasks.specs.declared.results.task.ResultTask.{ResultTask}
use Rattle.check_tasks.specs.declared.results.task.ResultTask.TheVariants as task
use Rattle.check_tasks.specs.declared.results.task.ResultMake.TheVariants as make
use Rattle.check_tasks.specs.results.ResultStates.{ResultState}
use Rattle.check_tasks.specs.results.ResultTasks.{scope_of, signatures_of, last_outputs, result_run, result_of}
use Rattle.check_declarations.specs.results.inner.ResultPlans.{HasNoResult, carried_by, raised_found, raise_found, raise_with_found}

-- the name stands for an exception that carries nothing
pub alone_found : (st new : ResultState) (name : List ℕ) (number : ℕ)
    → (Some (number, false), new.0.0) ≡ with_exception (exn_named name (signatures_of st)) st.0.0
    → new ≡ ((new.0.0, st.0.1, st.0.2, st.0.3), st.1, st.2, st.3) →
    result_run (task.Make (make.Raise number) ∷ []) new ≡ result_of ((raise_found (signatures_of st) name).result (scope_of st) (last_outputs st)) st
alone_found st new name number found keeps =
    by_case (exn_named name (signatures_of st)) (λ n. grind (arith, form_steps)) (λ exn e.
    by_case exn.1.carries (λ n. grind (arith, form_steps)) (λ carried c. grind (arith, form_steps)))

-- the tasks of an exception with what it carries
abbrev pub carried_plan : Bor Exp → ℕ → List ResultTask
carried_plan a number = task.Plain (plain.Against a) ∷ task.Plain (plain.Types types.Pop) ∷ task.Make (make.RaiseWith number) ∷ []

-- it stands for one that carries something, whose type is on the stack
pub carried_found : (st new : ResultState) (name : List ℕ) (a : Bor Exp) (number : ℕ)
    → (Some (number, true), new.0.0) ≡ with_exception (exn_named name (signatures_of st)) st.0.0
    → new ≡ ((new.0.0, st.0.1, st.0.2, st.0.3), st.1, st.2, st.3) →
    result_run (carried_plan a number) new
    ≡ result_of ((raise_with_found (signatures_of st) name a.now).result (scope_of st) (last_outputs st)) st
unfolding raise_with_found
carried_found st new name a number found keeps =
    by_case (exn_named name (signatures_of st)) (λ n. grind (arith, form_steps)) (λ exn e.
    by_case exn.1.carries (λ n. grind (arith, form_steps)) (λ carried c.
    by_case ((walk (signatures_of st) a.now).against (scope_of st) carried) (λ n. grind (arith, form_steps)) (λ part f. grind (arith, form_steps))))

-- what carries nothing can't be raised with something
pub none_raised : (st : ResultState) (name : List ℕ) (a : Exp) → carried_by (signatures_of st) name ≡ None
    → HasNoResult (raise_with_found (signatures_of st) name a) st
unfolding raise_with_found
none_raised st name a none =
    by_case (exn_named name (signatures_of st)) (λ n. grind (arith, form_steps)) (λ exn e.
    by_case exn.1.carries (λ n. grind (arith, form_steps)) (λ carried c. grind (arith, form_steps)))

pub raised_alone : (s : Signatures) (name : List ℕ) → raised_found s name None ≡ raise_found s name
unfolding raised_found
raised_alone s name = refl

pub raised_with : (s : Signatures) (name : List ℕ) (a : Exp) → raised_found s name (Some a) ≡ raise_with_found s name a
unfolding raised_found
raised_with s name a = refl

pub ruleset raised_steps = (common_steps, raised_alone, raised_with)

pub ruleset raise_steps = (form_steps, alone_found)

pub ruleset carrying_steps = (form_steps)

pub ruleset raise_with_steps = (form_steps, none_raised)
