-- What calls, alternatives and several evaluations in a row come to, step by step.
use Rattle.std.proofs.Common.{◌≡◌, ℕ, zero, suc, ◌≤◌, ◌<◌, List, [], ◌++◌, Option, slice_get, map, refl, ap, sym, ◌∙◌, append_assoc, arith, inl, inr}
use Rattle.std.proofs.lemmas.Bool.{cases_eq, eq-eqb, ne_eqb}
use Rattle.std.proofs.lemmas.Grind.{common_steps}
use Rattle.hume_base.specs.declared.types.Value.{Value}
use Rattle.hume_base.specs.declared.boxed.Box.{Box}
use Rattle.hume_model.specs.declared.core_tree.Forms.{Forms}
use Rattle.hume_model.specs.declared.core_tree.PatC.{PatC}
use Rattle.hume_model.specs.declared.core_tree.Expr.{Expr, fold-roll-Expr, the_lemmas as expr_lemmas}
use Rattle.hume_model.specs.declared.core_tree.Expr.TheVariants.{Case, rolls-Case}
use Rattle.hume_model.specs.declared.core_tree.Expr.TheOpen.{Expr-F}
use Rattle.hume_model.specs.declared.core_tree.Res.{Res, fold-roll-Res, the_lemmas as res_lemmas}
use Rattle.hume_model.specs.declared.core_tree.Res.TheVariants.{rolls-Case as rolls_case_result, Case as case_result}
use Rattle.hume_model.specs.declared.core_tree.Res.TheOpen.{Res-F}
use Rattle.hume_model.specs.declared.core_tree.Core.{Core}
use Rattle.hume_model.specs.declared.outcome.Outputs.{Outputs}
use Rattle.hume_model.specs.declared.outcome.Outputs.TheVariants.{Asserts, Throws}
use Rattle.hume_model.specs.declared.outcome.Several.{Several}
use Rattle.hume_model.specs.declared.outcome.Several.TheVariants.{All, Raised}
use Rattle.hume_model.specs.Outcomes.{Meaning, and_then, no_case, after_values, after_outputs, then_outputs}
use Rattle.hume_model.specs.Meaning.{Calls, call_below, call_of, eval_with, eval_step, first_arm}
use Rattle.hume_model.specs.inner.Arms.{arm_with}
use Rattle.hume_model.specs.Results.{ResultMeaning, result_of, result_step, first_result, meaning_in}
use Rattle.hume_model.specs.inner.Arms.{result_arm_with}
use Rattle.hume_model.proofs.Ranks.{rank-falls, some_size}

pub call-past : (core : Core) (bound function : ℕ) (args : List Value) → bound ≤ function → call_below core bound function args ≡ no_case
unfolding call_below
call-past core zero function args past = refl
call-past core (suc bound) function args past =
    let other : function ≡ bound → ⊥ = λ e. omega arith in
    rw (ne_eqb function bound other) (call-past core bound function args (omega arith))

pub call-at : (core : Core) (bound function : ℕ) (args : List Value) → function < bound
    → call_below core bound function args ≡ call_of (eval_with (call_below core function)) (slice_get core.funs function) args
unfolding call_below
call-at core zero function args below = absurd (omega arith)
call-at core (suc bound) function args below = elim (cases_eq function bound) [
  | inl same ↦ rw (eq-eqb function bound same) (ap (λ k. call_of (eval_with (call_below core k)) (slice_get core.funs k) args) (sym same))
  | inr other ↦ rw (ne_eqb function bound other) (call-at core bound function args (omega arith))
]

-- more values in front are those values before the others
pub after_values-append : (vs ws : List Value) (several : Several) → after_values (vs ++ ws) several ≡ after_values vs (after_values ws several)
after_values-append vs ws (All more) = ap All (append_assoc vs ws more)
after_values-append vs ws (Raised exn carried) = refl

pub after_values-none : (several : Several) → after_values [] several ≡ several
after_values-none (All more) = refl
after_values-none (Raised exn carried) = refl

pub after_outputs-append : (vs ws : List (Option Value)) (outputs : Outputs) → after_outputs (vs ++ ws) outputs ≡ after_outputs vs (after_outputs ws outputs)
after_outputs-append vs ws (Asserts more) = ap Asserts (append_assoc vs ws more)
after_outputs-append vs ws (Throws exn carried) = refl

pub after_outputs-none : (outputs : Outputs) → after_outputs [] outputs ≡ outputs
after_outputs-none (Asserts more) = refl
after_outputs-none (Throws exn carried) = refl

-- a `case`, with what its alternatives come to
pub eval-case : (call : Calls) (part : Box Expr) (forms : Forms) (arms : List (PatC × Expr)) (env : List Value)
    → eval_with call (Case part forms arms) env ≡ and_then (eval_with call part env) (λ v. first_arm (map (arm_with (eval_with call)) arms) v env)
eval-case call part forms arms env =
    ap (λ e. eval_with call e env) (sym (rolls-Case part forms arms)) ∙ ap (λ m. m env) (fold-roll-Expr Meaning (eval_step call) (Expr-F.Case part forms arms))

pub result-case : (core : Core) (part : Expr) (forms : Forms) (arms : List (PatC × Res)) (env : List Value)
    → result_of core env (case_result part forms arms) ≡ then_outputs (meaning_in core part env) (λ v. first_result (map (result_arm_with (λ res env. result_of core env res)) arms) v env)
result-case core part forms arms env =
    ap (λ res. result_of core env res) (sym (rolls_case_result part forms arms)) ∙ ap (λ m. m env) (fold-roll-Res ResultMeaning (result_step (meaning_in core)) (Res-F.Case part forms arms))

pub ruleset eval_steps = (common_steps, expr_lemmas, eval-case, call-past, call-at, after_values-append, after_values-none, rank-falls, some_size)

pub ruleset result_steps = (common_steps, res_lemmas, result-case, after_outputs-append, after_outputs-none)
