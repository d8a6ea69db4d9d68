-- A moved result takes what the result takes, and so do rules and boxes.
use Rattle.std.proofs.Common.{◌≡◌, ℕ, ◌==◌, Bool, true, false, if◌then◌else◌, List, [], ◌∷◌, ◌++◌, length, map, Option, Some, None, slice_get, refl, ap, sym, ◌∙◌}
use Rattle.std.specs.List.{find, list_all}
use Rattle.std.specs.Option.{option_and_then, option_map}
use Rattle.std.proofs.lemmas.Bool.{and_parts}
use Rattle.std.proofs.lemmas.List.Folds.{find_at}
use Rattle.std.proofs.lemmas.Option.{slice_get-map}
use Rattle.hume_base.specs.declared.types.Value.{Value}
use Rattle.hume_base.specs.Flat.{word_of_value}
use Rattle.hume_model.specs.declared.core_tree.PatC.{PatC}
use Rattle.hume_model.specs.declared.core_tree.Expr.{Expr}
use Rattle.hume_model.specs.declared.core_tree.Res.{Res, map-Res}
use Rattle.hume_model.specs.declared.core_tree.Res.TheOpen.{Res-F}
use Rattle.hume_model.specs.declared.core_tree.HandC.{HandC}
use Rattle.hume_model.specs.declared.core_tree.RuleC.{RuleC}
use Rattle.hume_model.specs.declared.core_tree.BoxC.{BoxC}
use Rattle.hume_model.specs.declared.core_tree.Core.{Core}
use Rattle.hume_model.specs.declared.outcome.Outcome.{Outcome}
use Rattle.hume_model.specs.declared.outcome.Outcome.TheVariants.{Gives, Raises}
use Rattle.hume_model.specs.declared.outcome.Outputs.{Outputs}
use Rattle.hume_model.specs.declared.outcome.Outputs.TheVariants.{Asserts, Throws}
use Rattle.hume_model.specs.Calls.{calls_below}
use Rattle.hume_model.specs.Firing.{handler_env, outputs_or_none, rule_fits}
use Rattle.hume_model.specs.Matching.{bound}
use Rattle.hume_model.specs.Outcomes.{after_outputs, on_match}
use Rattle.hume_model.specs.Patterns.{matches}
use Rattle.box_costs.specs.declared.cost.Cost.{Cost}
use Rattle.box_costs.specs.Bounds.{built_patterns, handler_variables}
use Rattle.box_costs.specs.Costs.{above, both, instructions, objects}
use Rattle.box_costs.specs.PatternTests.{tries}
use Rattle.box_costs.specs.Spending.{Spent, after, over, raise_spent, spends}
use Rattle.box_costs.specs.ResultSpending.{ResultSpending, box_spent, cost_if_fits, finish, finished, first_result, go_on_outputs, handled, handled_by, inputs_built, outs_after, outs_spent, result_spent, result_spent_step, result_taken, rule_spent, spending_in, then_outputs, thrown_spent}
use Rattle.union_laws.specs.declared.moves.Moves.{Moves}
use Rattle.union_laws.specs.Moving.{moved, moved_box, moved_exn, moved_handler, moved_result, moved_result_layer, moved_rule}
use Rattle.union_laws.specs.inner.Outcomes.{moved_outcome, moved_outputs}
use Rattle.union_laws.specs.inner.ResultCalls.{known_in, out_calls, result_calls}
use Rattle.union_laws.proofs.MovedFiring.{BoxCalls, find_moved, same_outs}
use Rattle.union_laws.proofs.MovedResultFolds.{moved_result_same}
use Rattle.union_laws.proofs.MovedSpending.{lift, lift_outs}

module _ (moves : Moves) (most : ℕ) (small large : Core)
    (spend : (e : Expr) → calls_below most e ≡ true → (env : List Value) → spending_in large (moved moves e) env ≡ lift moves (spending_in small e env)) where
  abbrev up : Spent Outputs → Spent Outputs
  up = lift_outs moves

  abbrev like : ResultSpending → ResultSpending
  like spending env = up (spending env)

  go_same : (o : Outcome) (go other : Value → Spent Outputs) → ((v : Value) → other v ≡ up (go v)) → go_on_outputs (moved_outcome moves o) other ≡ up (go_on_outputs o go)
  go_same (Gives v) go other same = same v
  go_same (Raises exn carried) go other same = refl

  then_same : (s : Spent Outcome) (go other : Value → Spent Outputs) → ((v : Value) → other v ≡ up (go v)) → then_outputs (lift moves s) other ≡ up (then_outputs s go)
  then_same s go other same = ap (after s.cost) (go_same s.outcome go other same)

  behind_same : (outs : List (Option Value)) (o : Outputs) → after_outputs outs (moved_outputs moves o) ≡ moved_outputs moves (after_outputs outs o)
  behind_same outs (Asserts more) = refl
  behind_same outs (Throws exn carried) = refl

  out_same : (o : Outcome) (rest : Spent Outputs) → outs_after (moved_outcome moves o) (up rest) ≡ up (outs_after o rest)
  out_same (Gives v) rest = ap (spends (above 1 rest.cost)) (behind_same (Some v ∷ []) rest.outcome)
  out_same (Raises exn carried) rest = refl

  outs_same : (outs : List (Option Expr)) → list_all (out_calls most) outs ≡ true → (env : List Value)
      → outs_spent (map (option_map (spending_in large)) (map (option_map (moved moves)) outs)) env ≡ up (outs_spent (map (option_map (spending_in small)) outs) env)
  outs_same [] known env = refl
  outs_same (None ∷ outs) known env =
      ap (λ (s : Spent Outputs). spends s.cost (after_outputs (None ∷ []) s.outcome)) (outs_same outs known env)
      ∙ ap (spends (outs_spent (map (option_map (spending_in small)) outs) env).cost) (behind_same (None ∷ []) (outs_spent (map (option_map (spending_in small)) outs) env).outcome)
  outs_same (Some e ∷ outs) known env =
      let parts = and_parts (calls_below most e) (list_all (out_calls most) outs) known in
      (λ i. after (spend e parts.0 env i).cost (outs_after (spend e parts.0 env i).outcome (outs_same outs parts.1 env i)))
      ∙ ap (after (spending_in small e env).cost) (out_same (spending_in small e env).outcome (outs_spent (map (option_map (spending_in small)) outs) env))

  finish_same : (o : Outputs) → finish (moved_outputs moves o) ≡ finish o
  finish_same (Asserts outs) = refl
  finish_same (Throws exn carried) = refl

  match_same : (o : Option (List Value)) (go other : List Value → Spent Outputs) (x y : Spent Outputs) → ((vs : List Value) → other vs ≡ up (go vs)) → y ≡ up x
      → on_match o other y ≡ up (on_match o go x)
  match_same None go other x y same none = none
  match_same (Some vs) go other x y same none = same vs

  abbrev arm_like : PatC × ResultSpending → PatC × ResultSpending
  arm_like arm = (arm.0, like arm.1)

  arms_same : (arms : List (PatC × ResultSpending)) (v : Value) (env : List Value) → first_result (map arm_like arms) v env ≡ up (first_result arms v env)
  arms_same [] v env = refl
  arms_same (arm ∷ arms) v env =
      ap (after (instructions (tries arm.0 v).tests))
      (match_same (matches arm.0 v) (result_taken (λ vs. arm.1 (env ++ vs))) (result_taken (λ vs. up (arm.1 (env ++ vs)))) (first_result arms v env)
      (first_result (map arm_like arms) v env) (λ vs. refl) (arms_same arms v env))

  choice_same : (a b : Spent Outputs) (zero : Bool) → (if zero then up a else up b) ≡ up (if zero then a else b)
  choice_same a b true = refl
  choice_same a b false = refl

  thrown_same : (exn : ℕ) (s : Spent Outcome) → thrown_spent (raise_spent (moved_exn moves exn) (Some (λ (vs : List Value). lift moves s)) [])
      ≡ up (thrown_spent (raise_spent exn (Some (λ (vs : List Value). s)) []))
  thrown_same exn s = by s.outcome s.cost
    where
      by : (o : Outcome) (c : Cost) → thrown_spent (raise_spent (moved_exn moves exn) (Some (λ (vs : List Value). spends c (moved_outcome moves o))) [])
          ≡ up (thrown_spent (raise_spent exn (Some (λ (vs : List Value). spends c o)) []))
      by (Gives v) c = refl
      by (Raises other carried) c = refl

  level_same : (y : Res-F ResultSpending) → known_in most y ≡ true → (env : List Value)
      → result_spent_step (spending_in large) (moved_result_layer moves (map-Res ResultSpending ResultSpending like y)) env ≡ up (result_spent_step (spending_in small) y env)
  level_same (Res-F.Outs outs) known env =
      let s : Spent Outputs = outs_spent (map (option_map (spending_in small)) outs) env in
      ap finished (outs_same outs known env) ∙ ap (λ c. spends (both s.cost c) (moved_outputs moves s.outcome)) (finish_same s.outcome)
  level_same (Res-F.If t a b) known env =
      ap (λ s. then_outputs s (λ v. after (instructions 1) (if word_of_value v == 0 then up (b env) else up (a env)))) (spend t known env)
      ∙ then_same (spending_in small t env) (λ v. after (instructions 1) (if word_of_value v == 0 then b env else a env))
      (λ v. after (instructions 1) (if word_of_value v == 0 then up (b env) else up (a env)))
      (λ v. ap (after (instructions 1)) (choice_same (b env) (a env) (word_of_value v == 0)))
  level_same (Res-F.Case e forms arms) known env =
      ap (λ s. then_outputs s (λ v. over 1 (first_result (map arm_like arms) v env))) (spend e known env)
      ∙ then_same (spending_in small e env) (λ v. over 1 (first_result arms v env)) (λ v. over 1 (first_result (map arm_like arms) v env)) (λ v. ap (over 1) (arms_same arms v env))
  level_same (Res-F.Let e b) known env =
      ap (λ s. then_outputs s (λ v. over 1 (up (b (env ++ v ∷ []))))) (spend e known env)
      ∙ then_same (spending_in small e env) (λ v. over 1 (b (env ++ v ∷ []))) (λ v. over 1 (up (b (env ++ v ∷ [])))) (λ v. refl)
  level_same (Res-F.Raise x None) known env = refl
  level_same (Res-F.Raise x (Some e)) known env =
      ap (λ s. thrown_spent (raise_spent (moved_exn moves x) (Some (λ (vs : List Value). s)) [])) (spend e known env) ∙ thrown_same x (spending_in small e env)

  pub result_spends : (r : Res) → result_calls most r ≡ true → (env : List Value) → result_spent large env (moved_result moves r) ≡ up (result_spent small env r)
  result_spends r known env =
      ap (λ (m : ResultSpending). m env)
      (moved_result_same ResultSpending (result_spent_step (spending_in small)) (result_spent_step (spending_in large)) like moves most
      (λ y exprs. λ i vs. level_same y exprs vs i) r known)

  -- boxes

  found_same : (handlers : List HandC) → ((n : ℕ) (handler : HandC) → slice_get handlers n ≡ Some handler → result_calls most handler.result ≡ true)
      → (carried : Option Value) (n : ℕ) (o : Option HandC) → slice_get handlers n ≡ o
      → handled_by large carried (option_map (moved_handler moves) o) ≡ handled_by small carried o
  found_same handlers known carried n None at = refl
  found_same handlers known carried n (Some handler) at =
      let env : List Value = handler_env handler carried in
      let same = result_spends handler.result (known n handler at) env in
      let s : Spent Outputs = result_spent small env handler.result in
      ap (λ (t : Spent Outputs). spends (over 1 (over (handler_variables handler) (after (instructions (handler_variables handler)) t))).cost
      (outputs_or_none (over 1 (over (handler_variables handler) (after (instructions (handler_variables handler)) t))).outcome)) same
      ∙ ap (spends (over 1 (over (handler_variables handler) (after (instructions (handler_variables handler)) s))).cost) (same_outs moves s.outcome)

  handled_same : (handlers : List HandC) → ((n : ℕ) (handler : HandC) → slice_get handlers n ≡ Some handler → result_calls most handler.result ≡ true)
      → (o : Outputs) → handled large (map (moved_handler moves) handlers) (moved_outputs moves o) ≡ handled small handlers o
  handled_same handlers known (Asserts outs) = refl
  handled_same handlers known (Throws exn carried) =
      ap (handled_by large carried) (find_moved moves exn handlers)
      ∙ found_same handlers known carried _ (find (λ (h : HandC). h.exn == exn) handlers) (sym (find_at (λ (h : HandC). h.exn == exn) handlers))

  module _ (b : BoxC) (known : BoxCalls most b) (ins : List (Option Value)) where
    rule_at : (n : ℕ) (o : Option RuleC) → slice_get b.rules n ≡ o
        → option_map (rule_spent large (moved_box moves b) ins) (option_map (moved_rule moves) o) ≡ option_map (rule_spent small b ins) o
    rule_at n None at = refl
    rule_at n (Some rule) at =
        let spent_there = (λ (t : Spent Outputs). after (objects (inputs_built rule.pats ins)) (over (length (built_patterns rule.pats))
        (over (length (bound rule.pats ins)) (after (instructions (length (bound rule.pats ins))) t)))) in
        let s : Spent Outputs = result_spent small (bound rule.pats ins) rule.result in
        ap (λ (t : Spent Outputs). Some (after (spent_there t).cost (handled large (map (moved_handler moves) b.handlers) (spent_there t).outcome)))
        (result_spends rule.result (known.rules n rule at) (bound rule.pats ins))
        ∙ ap (λ h. Some (after (spent_there s).cost h)) (handled_same b.handlers known.handlers s.outcome)

    rule_same : (n : ℕ) → option_map (rule_spent large (moved_box moves b) ins) (slice_get (map (moved_rule moves) b.rules) n)
        ≡ option_map (rule_spent small b ins) (slice_get b.rules n)
    rule_same n = ap (option_map (rule_spent large (moved_box moves b) ins)) (slice_get-map (moved_rule moves) b.rules n) ∙ rule_at n (slice_get b.rules n) refl

    fits_at : (o : Option RuleC) → rule_fits ins (option_map (moved_rule moves) o) ≡ rule_fits ins o
    fits_at None = refl
    fits_at (Some rule) = refl

    fits : (n : ℕ) → rule_fits ins (slice_get (map (moved_rule moves) b.rules) n) ≡ rule_fits ins (slice_get b.rules n)
    fits n = ap (rule_fits ins) (slice_get-map (moved_rule moves) b.rules n) ∙ fits_at (slice_get b.rules n)

    pub box_spends : (order : List ℕ) → box_spent large (moved_box moves b) order ins ≡ box_spent small b order ins
    box_spends order = λ i. cost_if_fits (option_and_then (λ n. rule_same n i) (find (λ n. fits n i) order))
