-- A result comes to what it means, takes no more than its bound, and just its bound where it is straight.
use Rattle.std.proofs.Common.{◌≡◌, ℕ, ◌==◌, Bool, true, false, if◌then◌else◌, List, [], ◌∷◌, ◌++◌, map, length, Option, Some, None, refl, ap, sym, ◌∙◌, subst, arith}
use Rattle.std.proofs.lemmas.Bool.{and_parts}
use Rattle.std.specs.List.{list_all}
use Rattle.std.specs.Option.{option_map}
use Rattle.hume_base.specs.declared.types.Value.{Value}
use Rattle.hume_base.specs.Flat.{word_of_value}
use Rattle.hume_model.specs.declared.core_tree.PatC.{PatC}
use Rattle.hume_model.specs.declared.core_tree.Expr.{Expr}
use Rattle.hume_model.specs.declared.core_tree.Res.{Res, roll-Res, map-Res, fold-roll-Res, ind-Res}
use Rattle.hume_model.specs.declared.core_tree.Res.TheOpen.{Res-F}
use Rattle.hume_model.specs.declared.core_tree.Core.{Core}
use Rattle.hume_model.specs.declared.outcome.Outcome.{Outcome}
use Rattle.hume_model.specs.declared.outcome.Outcome.TheVariants.{Gives, Raises}
use Rattle.hume_model.specs.declared.outcome.Outputs.{Outputs}
use Rattle.hume_model.specs.declared.outcome.Outputs.TheVariants.{Asserts, Throws}
use Rattle.hume_model.specs.Outcomes as o
use Rattle.hume_model.specs.Patterns.{matches}
use Rattle.hume_model.specs.Results as r
use Rattle.box_costs.specs.declared.cost.Cost.{Cost}
use Rattle.box_costs.specs.Costs.{nothing, instructions, pushed, above, both, either, in_order, one_way, with_variables, IsAtMost}
use Rattle.box_costs.specs.PatternTests.{variables_of}
use Rattle.box_costs.specs.Bounds.{arm_way, expression_bound, given_outs, raise_bound, result_bound_step, result_bound}
use Rattle.box_costs.specs.Spending.{Spent, Spending, spends, after, raise_spent}
use Rattle.box_costs.specs.ResultSpending.{ResultSpending, go_on_outputs, then_outputs, outs_after, outs_spent, finish, finished, result_taken, first_result, thrown_spent, result_spent_step, result_spent, spending_in}
use Rattle.box_costs.specs.Straight.{is_straight, is_straight_out, result_straight_step, is_straight_result}
use Rattle.box_costs.proofs.CostSteps.{self_most, both_most, above_most, nothing_most, left_most, right_most, no_way}
use Rattle.box_costs.proofs.Trials.{trial}
use Rattle.box_costs.proofs.Within.{then_within, match_within, spends_within}
use Rattle.box_costs.proofs.Outcomes.{match_means, either_means, comes_to}
use Rattle.box_costs.proofs.Exact.{Exactly, both_same, spends_exactly}

outputs_means : (s p : Outcome) (go : Value → Spent Outputs) (follow : Value → Outputs) → s ≡ p → ((v : Value) → (go v).outcome ≡ follow v)
    → (go_on_outputs s go).outcome ≡ o.then_outputs p follow
outputs_means (Gives v) p go follow e q = q v ∙ ap (λ x. o.then_outputs x follow) e
outputs_means (Raises exn carried) p go follow e q = ap (λ x. o.then_outputs x follow) e

outs_means : (s p : Outcome) (rest : Spent Outputs) (outs : Outputs) → s ≡ p → rest.outcome ≡ outs → (outs_after s rest).outcome ≡ o.then_outs p outs
outs_means (Gives v) p rest outs e q = ap (o.after_outputs (Some v ∷ [])) q ∙ ap (λ x. o.then_outs x outs) e
outs_means (Raises exn carried) p rest outs e q = ap (λ x. o.then_outs x outs) e

raise_means : (exn : ℕ) (s : Spending) (m : o.Meaning) (env : List Value) → (s env).outcome ≡ m env → (raise_spent exn (Some s) env).outcome ≡ o.raised exn (Some m) env
raise_means exn s m env e = by (s env).outcome ∙ ap (λ x. o.and_then x (λ v. Raises exn (Some v))) e
  where
    by : (x : Outcome) → (raise_spent exn (Some (λ env. spends (s env).cost x)) env).outcome ≡ o.and_then x (λ v. Raises exn (Some v))
    by (Gives v) = refl
    by (Raises y k) = refl

outputs_within : (x : Cost) (s : Outcome) (go : Value → Spent Outputs) (c d : Cost) → IsAtMost x c → ((v : Value) → IsAtMost (go v).cost d)
    → IsAtMost (then_outputs (spends x s) go).cost (both c d)
outputs_within x (Gives v) go c d p q = both_most x c _ d p (q v)
outputs_within x (Raises exn carried) go c d p q = both_most x c _ d p (nothing_most d)

outs_rest_within : (x : Cost) (s : Outcome) (rest : Spent Outputs) (c d : Cost) → IsAtMost x c → IsAtMost rest.cost d
    → IsAtMost (after x (outs_after s rest)).cost (both c (above 1 d))
outs_rest_within x (Gives v) rest c d p q = both_most x c _ _ p (above_most 1 _ _ q)
outs_rest_within x (Raises exn carried) rest c d p q = both_most x c _ _ p (nothing_most _)

finish_within : (outs : Outputs) → IsAtMost (finish outs) (instructions 1)
finish_within (Asserts outs) = self_most _
finish_within (Throws exn carried) = nothing_most _

result_taken_within : (go : List Value → Spent Outputs) (vs : List Value) (n : ℕ) (c : Cost) → length vs ≡ n → IsAtMost (go vs).cost c
    → IsAtMost (result_taken go vs).cost (with_variables n 0 c)
result_taken_within go vs n c e p =
    subst (λ k. IsAtMost (result_taken go vs).cost (with_variables k 0 c)) e
    (above_most (length vs) _ _ (both_most _ _ _ _ (self_most (instructions (length vs))) (record { heap = omega (arith, p.heap); stack = omega (arith, p.stack); work = omega (arith, p.work) })))

either_outputs : (b : Bool) (x y : Spent Outputs) (c d : Cost) → IsAtMost x.cost c → IsAtMost y.cost d → IsAtMost (if b then y else x).cost (either c d)
either_outputs true x y c d p q = right_most _ c d q
either_outputs false x y c d p q = left_most _ c d p

-- where outputs are given, just so much is taken
pub record ExactlyOuts (s : Spent Outputs) (c : Cost) : Type 0 where
  pub by : (outs : List (Option Value)) → s.outcome ≡ Asserts outs → s.cost ≡ c

never_outs : (x : ℕ) (k : Option Value) (b c : Cost) → ExactlyOuts (spends b (Throws x k)) c
never_outs x k b c = record { by = λ outs e. cc }

outputs_exact : (x : Cost) (s : Outcome) (go : Value → Spent Outputs) (c d : Cost) → Exactly (spends x s) c → ((v : Value) → ExactlyOuts (go v) d)
    → ExactlyOuts (then_outputs (spends x s) go) (both c d)
outputs_exact x (Gives v) go c d p q = record { by = λ outs e. both_same x c _ d (p.by v refl) ((q v).by outs e) }
outputs_exact x (Raises exn carried) go c d p q = never_outs exn carried _ _

outs_rest_exact : (x : Cost) (s : Outcome) (rc : Cost) (rest : Outputs) (c d : Cost) → Exactly (spends x s) c → ExactlyOuts (spends rc rest) d
    → ExactlyOuts (after x (outs_after s (spends rc rest))) (both c (above 1 d))
outs_rest_exact x (Gives v) rc (Asserts more) c d p q = record { by = λ outs e. both_same x c _ _ (p.by v refl) (ap (above 1) (q.by more refl)) }
outs_rest_exact x (Gives v) rc (Throws exn k) c d p q = record { by = λ outs e. cc }
outs_rest_exact x (Raises exn k) rc rest c d p q = never_outs exn k _ _

star_exact : (rc : Cost) (rest : Outputs) (d : Cost) → ExactlyOuts (spends rc rest) d → ExactlyOuts (spends rc (o.after_outputs (None ∷ []) rest)) d
star_exact rc (Asserts more) d q = record { by = λ outs e. q.by more refl }
star_exact rc (Throws exn k) d q = never_outs exn k _ _

finish_exact : (x : Cost) (outs : Outputs) (c : Cost) → ExactlyOuts (spends x outs) c → ExactlyOuts (finished (spends x outs)) (both c (instructions 1))
finish_exact x (Asserts more) c q = record { by = λ outs e. ap (λ y. both y (instructions 1)) (q.by more refl) }
finish_exact x (Throws exn k) c q = never_outs exn k _ _

raise_exact : (exn : ℕ) (s : Spending) (env : List Value) (out : Outcome) (c : Cost) → (s env).outcome ≡ out → ExactlyOuts (thrown_spent (raise_spent exn (Some s) env)) c
raise_exact exn s env out c e = record { by = λ outs h. throws (s env).outcome outs h }
  where
    throws : (x : Outcome) (outs : List (Option Value)) → (thrown_spent (raise_spent exn (Some (λ env. spends (s env).cost x)) env)).outcome ≡ Asserts outs
        → (raise_spent exn (Some s) env).cost ≡ c
    throws (Gives v) outs h = cc
    throws (Raises y k) outs h = cc

module _ (core : Core) where
  abbrev spending : Expr → Spending
  spending = spending_in core

  abbrev meaning : Expr → o.Meaning
  meaning = r.meaning_in core

  abbrev bound : Expr → Cost
  bound = expression_bound core

  abbrev spends_result : Res → ResultSpending
  spends_result res env = result_spent core env res

  abbrev means_result : Res → r.ResultMeaning
  means_result res env = r.result_of core env res

  outs_mean : (outs : List (Option Expr)) (env : List Value) → (outs_spent (map (option_map spending) outs) env).outcome ≡ o.outs_in_order (map (option_map meaning) outs) env
  outs_mean [] env = refl
  outs_mean (None ∷ outs) env = ap (o.after_outputs (None ∷ [])) (outs_mean outs env)
  outs_mean (Some e ∷ outs) env = outs_means (spending e env).outcome (meaning e env) (outs_spent (map (option_map spending) outs) env) _ (comes_to core env e) (outs_mean outs env)

  outs_within : (outs : List (Option Expr)) (env : List Value) → IsAtMost (outs_spent (map (option_map spending) outs) env).cost (in_order (map bound (given_outs outs)))
  outs_within [] env = self_most nothing
  outs_within (None ∷ outs) env = outs_within outs env
  outs_within (Some e ∷ outs) env =
      let s = spending e env in
      outs_rest_within s.cost s.outcome (outs_spent (map (option_map spending) outs) env) (bound e) (in_order (map bound (given_outs outs))) (spends_within core env e) (outs_within outs env)

  outs_exact : (outs : List (Option Expr)) → list_all (is_straight_out (is_straight core)) outs ≡ true → (env : List Value)
      → ExactlyOuts (outs_spent (map (option_map spending) outs) env) (in_order (map bound (given_outs outs)))
  outs_exact [] h env = record { by = λ outs e. refl }
  outs_exact (None ∷ outs) h env = let rest = outs_spent (map (option_map spending) outs) env in star_exact rest.cost rest.outcome _ (outs_exact outs h env)
  outs_exact (Some e ∷ outs) h env =
      let s = spending e env in
      let rest = outs_spent (map (option_map spending) outs) env in
      let hs = and_parts _ _ h in
      outs_rest_exact s.cost s.outcome rest.cost rest.outcome (bound e) (in_order (map bound (given_outs outs))) (spends_exactly core e hs.0 env) (outs_exact outs hs.1 env)

  pub record Sound (res : Res) : Type 0 where
    pub means : (env : List Value) → (result_spent core env res).outcome ≡ r.result_of core env res
    pub within : (env : List Value) → IsAtMost (result_spent core env res).cost (result_bound core res)
    pub exact : is_straight_result core res ≡ true → (env : List Value) → ExactlyOuts (result_spent core env res) (result_bound core res)

  abbrev Part : Type 0
  Part = (res : Res) × Sound res

  abbrev of_part : Part → Res
  of_part p = p.0

  abbrev arm_of : PatC × Part → PatC × Res
  arm_of arm = (arm.0, of_part arm.1)

  abbrev arm_spending : PatC × Res → PatC × ResultSpending
  arm_spending arm = (arm.0, spends_result arm.1)

  abbrev arm_meaning : PatC × Res → PatC × r.ResultMeaning
  arm_meaning arm = (arm.0, means_result arm.1)

  abbrev arm_bound : PatC × Res → PatC × Cost
  arm_bound arm = (arm.0, result_bound core arm.1)

  arms_mean : (arms : List (PatC × Part)) (v : Value) (env : List Value)
      → (first_result (map arm_spending (map arm_of arms)) v env).outcome ≡ r.first_result (map arm_meaning (map arm_of arms)) v env
  arms_mean [] v env = refl
  arms_mean (arm ∷ arms) v env =
      match_means (matches arm.0 v) (result_taken (λ vs. result_spent core (env ++ vs) arm.1.0)) (first_result (map arm_spending (map arm_of arms)) v env) _ _
      (λ vs. arm.1.1.means (env ++ vs)) (arms_mean arms v env)

  arms_within : (arms : List (PatC × Part)) (v : Value) (env : List Value)
      → IsAtMost (first_result (map arm_spending (map arm_of arms)) v env).cost (one_way (map (arm_way 0) (map arm_bound (map arm_of arms))))
  arms_within [] v env = no_way []
  arms_within (arm ∷ arms) v env =
      let t = trial arm.0 v in
      let go : List Value → Spent Outputs = λ vs. result_spent core (env ++ vs) arm.1.0 in
      match_within _ (matches arm.0 v) (result_taken go) (first_result (map arm_spending (map arm_of arms)) v env) (arm_way 0 (arm.0, result_bound core arm.1.0)) _ t.few
      (λ vs e. result_taken_within go vs (variables_of arm.0) (result_bound core arm.1.0) (t.count vs e) (arm.1.1.within (env ++ vs))) (arms_within arms v env)

  abbrev layer : Res-F Part → Res-F Res
  layer y = map-Res Part Res of_part y

  raise_out_within : (exn : ℕ) (part : Option Expr) (env : List Value) → IsAtMost (raise_spent exn (option_map spending part) env).cost (raise_bound (option_map bound part))
  raise_out_within exn None env = self_most (both pushed (instructions 1))
  raise_out_within exn (Some e) env =
      let s = spending e env in
      then_within s.cost s.outcome (λ v. spends (instructions 1) (Raises exn (Some v))) (bound e) (instructions 1) (spends_within core env e) (λ v. self_most (instructions 1))

  step_means : (y : Res-F Part) (env : List Value)
      → (result_spent_step spending (map-Res Res ResultSpending spends_result (layer y)) env).outcome ≡ r.result_step meaning (map-Res Res r.ResultMeaning means_result (layer y)) env
  step_means (Res-F.Outs outs) env = outs_mean outs env
  step_means (Res-F.If test a b) env =
      outputs_means (spending test env).outcome (meaning test env) _ _ (comes_to core env test)
      (λ v. either_means (word_of_value v == 0) (result_spent core env b.0) (result_spent core env a.0) _ _ (b.1.means env) (a.1.means env))
  step_means (Res-F.Case part forms arms) env = outputs_means (spending part env).outcome (meaning part env) _ _ (comes_to core env part) (λ v. arms_mean arms v env)
  step_means (Res-F.Let part body) env = outputs_means (spending part env).outcome (meaning part env) _ _ (comes_to core env part) (λ v. body.1.means (env ++ v ∷ []))
  step_means (Res-F.Raise exn None) env = refl
  step_means (Res-F.Raise exn (Some e)) env = ap o.thrown (raise_means exn (spending e) (meaning e) env (comes_to core env e))

  step_within : (y : Res-F Part) (env : List Value)
      → IsAtMost (result_spent_step spending (map-Res Res ResultSpending spends_result (layer y)) env).cost (result_bound_step bound (map-Res Res Cost (result_bound core) (layer y)))
  step_within (Res-F.Outs outs) env = both_most _ _ _ _ (outs_within outs env) (finish_within (outs_spent (map (option_map spending) outs) env).outcome)
  step_within (Res-F.If test a b) env =
      let s = spending test env in
      outputs_within s.cost s.outcome _ (bound test) _ (spends_within core env test)
      (λ v. both_most _ _ _ _ (self_most (instructions 1)) (either_outputs (word_of_value v == 0) (result_spent core env a.0) (result_spent core env b.0) _ _ (a.1.within env) (b.1.within env)))
  step_within (Res-F.Case part forms arms) env =
      let s = spending part env in
      outputs_within s.cost s.outcome _ (bound part) _ (spends_within core env part) (λ v. above_most 1 _ _ (arms_within arms v env))
  step_within (Res-F.Let part body) env =
      let s = spending part env in
      outputs_within s.cost s.outcome _ (bound part) _ (spends_within core env part) (λ v. above_most 1 _ _ (body.1.within (env ++ v ∷ [])))
  step_within (Res-F.Raise exn part) env = raise_out_within exn part env

  step_exact : (y : Res-F Part) → result_straight_step (is_straight core) (map-Res Res Bool (is_straight_result core) (layer y)) ≡ true → (env : List Value)
      → ExactlyOuts (result_spent_step spending (map-Res Res ResultSpending spends_result (layer y)) env) (result_bound_step bound (map-Res Res Cost (result_bound core) (layer y)))
  step_exact (Res-F.Outs outs) h env = let s = outs_spent (map (option_map spending) outs) env in finish_exact s.cost s.outcome _ (outs_exact outs h env)
  step_exact (Res-F.If test a b) h env = cc
  step_exact (Res-F.Case part forms arms) h env = cc
  step_exact (Res-F.Let part body) h env =
      let hs = and_parts _ _ h in
      let s = spending part env in
      outputs_exact s.cost s.outcome _ (bound part) _ (spends_exactly core part hs.0 env)
      (λ v. record { by = λ outs e. ap (above 1) ((body.1.exact hs.1 (env ++ v ∷ [])).by outs e) })
  step_exact (Res-F.Raise exn None) h env = never_outs exn None _ _
  step_exact (Res-F.Raise exn (Some e)) h env = raise_exact exn (spending e) env (spending e env).outcome _ refl

  layer_sound : (y : Res-F Part) → Sound (roll-Res (layer y))
  layer_sound y = record {
    means = λ env. rw (fold-roll-Res ResultSpending (result_spent_step spending) (layer y), fold-roll-Res r.ResultMeaning (r.result_step meaning) (layer y)) (step_means y env);
    within = λ env. rw (fold-roll-Res ResultSpending (result_spent_step spending) (layer y), fold-roll-Res Cost (result_bound_step bound) (layer y)) (step_within y env);
    exact = λ h env. rw (fold-roll-Res ResultSpending (result_spent_step spending) (layer y), fold-roll-Res Cost (result_bound_step bound) (layer y))
        (step_exact y (sym (fold-roll-Res Bool (result_straight_step (is_straight core)) (layer y)) ∙ h) env);
  }

  pub sound : (res : Res) → Sound res
  sound = ind-Res Sound (λ x y is. subst (λ z. Sound (roll-Res z)) is (layer_sound y))
