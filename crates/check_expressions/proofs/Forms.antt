-- The tasks of each form, one after the other.
use Rattle.std.proofs.Common.{◌≡◌, ℕ, List, [], ◌∷◌, ◌++◌, Option, Some, None, Result, Ok, Err, refl, ap, sym, ◌∙◌}
use Rattle.std.specs.Result.{OnOk, IfErr}
use Rattle.std.proofs.lemmas.Grind.{common_steps}
use Rattle.std.proofs.lemmas.Result.{on_ok_weaker}
use Rattle.check_typing.specs.Partial.{given}
use Rattle.check_tasks.specs.declared.task.Task.{Task}
use Rattle.check_expressions.specs.declared.stop.Stop.{Stop}
use Rattle.check_tasks.specs.States.{State}
use Rattle.check_tasks.specs.Tasks.{run, step}
use Rattle.check_tasks.proofs.Order.{run_append}
use Rattle.check_tasks.proofs.FormLaws.{let_own, let_against, if_own, if_against, arithmetic_own, arithmetic_against, comparison_own, and_own, or_own, neg_own, neg_against, not_own, index_own, update_own, update_against, closed_against}
use Rattle.check_tasks.proofs.WholeLaws.{case_own, case_against, tuple_own, tuple_against, vector_own}

pub ruleset first_steps = (common_steps, run_append)

pub ruleset closed_steps = (common_steps, closed_against)

pub ruleset let_own_steps = (common_steps, let_own)

pub ruleset if_own_steps = (common_steps, if_own)

pub ruleset case_own_steps = (common_steps, case_own)

pub ruleset arithmetic_own_steps = (common_steps, arithmetic_own)

pub ruleset comparison_own_steps = (common_steps, comparison_own)

pub ruleset and_own_steps = (common_steps, and_own)

pub ruleset or_own_steps = (common_steps, or_own)

pub ruleset index_own_steps = (common_steps, index_own)

pub ruleset neg_own_steps = (common_steps, neg_own)

pub ruleset not_own_steps = (common_steps, not_own)

pub ruleset update_own_steps = (common_steps, update_own)

pub ruleset tuple_own_steps = (common_steps, tuple_own)

pub ruleset vector_own_steps = (common_steps, vector_own)

pub ruleset let_against_steps = (common_steps, let_against)

pub ruleset if_against_steps = (common_steps, if_against)

pub ruleset case_against_steps = (common_steps, case_against)

pub ruleset arithmetic_against_steps = (common_steps, arithmetic_against)

pub ruleset neg_against_steps = (common_steps, neg_against)

pub ruleset update_against_steps = (common_steps, update_against)

pub ruleset tuple_against_steps = (common_steps, tuple_against)

-- what tasks come to that were put before others
pub comes_to : {T E : Type 0} (r : Result T E) (tasks more others : List Task) (state : State) (found : Option State) → run more state ≡ found
    → OnOk r ((s : State) → run tasks s ≡ given (run more s) (run others)) → OnOk r (run tasks state ≡ given found (run others))
comes_to r tasks more others state found law h = on_ok_weaker r (λ runs. runs state ∙ ap (λ o. given o (run others)) law) h

-- the same from each state
pub comes_to_each : {T E : Type 0} (r : Result T E) (tasks more others : List Task) (found : State → Option State) → ((state : State) → run more state ≡ found state)
    → OnOk r ((s : State) → run tasks s ≡ given (run more s) (run others)) → OnOk r ((s : State) → run tasks s ≡ given (found s) (run others))
comes_to_each r tasks more others found law h = on_ok_weaker r (λ runs s. runs s ∙ ap (λ o. given o (run others)) (law s)) h

-- what an error means, said in another way
pub other_reason : {T : Type 0} (r : Result T Stop) (P Q : Stop → Type 0) → ((stop : Stop) → P stop → Q stop) → IfErr r P → IfErr r Q
other_reason (Ok x) P Q f h = h
other_reason (Err stop) P Q f h = f stop h
