-- Forms through which a result is followed.
use Rattle.std.proofs.Common.{◌≡◌, ℕ, List, [], ◌∷◌, length, Option, Result, subst}
use Rattle.std.specs.Result.{OnOk}
use Rattle.std.proofs.lemmas.Grind.{common_steps}
use Rattle.std.proofs.lemmas.Result.{on_ok_weaker}
use denote.Ref.{Bor}
use Rattle.hume_ast.specs.declared.tree.Pat.{Pat}
use Rattle.hume_ast.specs.declared.tree.Exp.{Exp}
use Rattle.check_typing.specs.Partial.{given}
use Rattle.check_typing.specs.inner.Walk.{star_walk}
use Rattle.check_tasks.specs.declared.task.Task.TheVariants as plain
use Rattle.check_tasks.specs.declared.task.TypeTask.TheVariants as types
use Rattle.check_tasks.specs.declared.results.task.ResultTask.{ResultTask}
use Rattle.check_tasks.specs.declared.results.task.ResultTask.TheVariants as task
use Rattle.check_tasks.specs.declared.results.task.ResultMake.TheVariants as make
use Rattle.check_tasks.specs.results.ResultStates.{ResultState}
use Rattle.check_tasks.specs.results.ResultTasks.{scope_of, signatures_of, last_outputs, result_run, result_of}
use Rattle.check_tasks.proofs.results_lemmas.ResultForms.{let_result, if_result}
use Rattle.check_tasks.proofs.results_lemmas.ResultWholes.{case_result}
use Rattle.check_declarations.specs.results.inner.ResultPlans.{let_found, if_found, case_found}

-- what tasks come to that were put before others
pub comes_to : {T E : Type 0} (r : Result T E) (tasks more others : List ResultTask) (state : ResultState) (found : Option ResultState)
    → result_run more state ≡ found → OnOk r ((s : ResultState) → result_run tasks s ≡ given (result_run more s) (result_run others))
    → OnOk r (result_run tasks state ≡ given found (result_run others))
comes_to r tasks more others state found law h = on_ok_weaker r (λ runs. subst (λ (o : Option ResultState). result_run tasks state ≡ given o (result_run others)) law (runs state)) h

-- the tasks of a `let`
abbrev pub let_plan : Bor Exp → Bor (List ℕ) → Bor Exp → ℕ → List ResultTask
let_plan a name b count = task.Plain (plain.Own a) ∷ task.Plain (plain.Enter name) ∷ task.Result b ∷ task.Make make.Binding
    ∷ task.Plain (plain.Leave count) ∷ []

-- the laws of forms, where what the other walk finds of the whole is left out
pub let_does : (st : ResultState) (name : Bor (List ℕ)) (a b : Bor Exp) →
    result_run (let_plan a name b (length (scope_of st))) st
    ≡ result_of ((let_found (signatures_of st) name.now a.now b.now).result (scope_of st) (last_outputs st)) st
unfolding let_found
let_does st name a b = let_result st star_walk a b name

pub if_does : (st : ResultState) (t a b : Bor Exp) →
    result_run (task.Plain (plain.Types types.PushBool) ∷ task.Plain (plain.Against t) ∷ task.Plain (plain.Types types.Pop) ∷ task.Result a ∷ task.Result b
    ∷ task.Make make.Branches ∷ []) st
    ≡ result_of ((if_found (signatures_of st) t.now a.now b.now).result (scope_of st) (last_outputs st)) st
unfolding if_found
if_does st t a b = if_result st star_walk t a b

pub case_does : (st : ResultState) (a : Bor Exp) (arms : Bor (List (Pat × Exp))) (count : ℕ) → count ≡ length arms.now →
    result_run (task.Plain (plain.Own a) ∷ task.Plain (plain.Types types.RepeatBelow) ∷ task.Arms arms ∷ task.Plain (plain.Types types.Pop)
    ∷ task.Make (make.Alternatives count) ∷ task.Plain (plain.Types types.Pop) ∷ []) st
    ≡ result_of ((case_found (signatures_of st) a.now arms.now).result (scope_of st) (last_outputs st)) st
unfolding case_found
case_does st a arms count is = case_result st star_walk a arms count is

pub ruleset let_steps = (common_steps, let_does)

pub ruleset if_steps = (common_steps, if_does)

pub ruleset case_steps = (common_steps, case_does)

pub ruleset same_steps = (common_steps)
