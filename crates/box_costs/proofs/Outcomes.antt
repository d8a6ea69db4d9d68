-- What spends is the evaluation: it comes to what the expression means.
use Rattle.std.proofs.Common.{◌≡◌, ℕ, zero, suc, ◌==◌, Bool, true, false, if◌then◌else◌, List, [], ◌∷◌, ◌++◌, map, length, Option, Some, None, slice_get, refl, ap, ◌∙◌, subst}
use Rattle.hume_base.specs.declared.types.Value.{Value}
use Rattle.hume_base.specs.Flat.{word_of_value}
use Rattle.hume_model.specs.declared.core_tree.PatC.{PatC}
use Rattle.hume_model.specs.declared.core_tree.Expr.{Expr, roll-Expr, map-Expr, fold-roll-Expr, ind-Expr}
use Rattle.hume_model.specs.declared.core_tree.Expr.TheOpen.{Expr-F}
use Rattle.hume_model.specs.declared.core_tree.EqC.{EqC}
use Rattle.hume_model.specs.declared.core_tree.FunC.{FunC}
use Rattle.hume_model.specs.declared.core_tree.Core.{Core}
use Rattle.hume_model.specs.declared.outcome.Outcome.{Outcome}
use Rattle.hume_model.specs.declared.outcome.Outcome.TheVariants.{Gives, Raises}
use Rattle.hume_model.specs.declared.outcome.Several.{Several}
use Rattle.hume_model.specs.declared.outcome.Several.TheVariants.{All, Raised}
use Rattle.hume_model.specs.Outcomes as o
use Rattle.hume_model.specs.Operations.{item_of, updated}
use Rattle.hume_model.specs.Patterns.{matches, matches_all}
use Rattle.hume_model.specs.Meaning as m
use Rattle.box_costs.specs.Costs.{instructions}
use Rattle.box_costs.specs.Spending.{Spent, Spending, spends, go_on, ended, go_on_all, with_all, rest_after, parts_spent, item_at, changed, copied, taken, first_arm, spent_step, spent_with, first_equation, call_of, spent_below, spent}

then_means : (s p : Outcome) (go : Value → Spent Outcome) (follow : Value → Outcome) → s ≡ p → ((v : Value) → (go v).outcome ≡ follow v)
    → (go_on s go).outcome ≡ o.and_then p follow
then_means (Gives v) p go follow e q = q v ∙ ap (λ x. o.and_then x follow) e
then_means (Raises exn carried) p go follow e q = ap (λ x. o.and_then x follow) e

all_means : (s p : Several) (go : List Value → Spent Outcome) (follow : List Value → Outcome) → s ≡ p → ((vs : List Value) → (go vs).outcome ≡ follow vs)
    → (go_on_all s go).outcome ≡ o.with_all p follow
all_means (All vs) p go follow e q = q vs ∙ ap (λ x. o.with_all x follow) e
all_means (Raised exn carried) p go follow e q = ap (λ x. o.with_all x follow) e

rest_means : (s p : Outcome) (rest : Spent Several) (several : Several) → s ≡ p → rest.outcome ≡ several → (rest_after s rest).outcome ≡ o.then_rest p several
rest_means (Gives v) p rest several e q = ap (o.after_values (v ∷ [])) q ∙ ap (λ x. o.then_rest x several) e
rest_means (Raises exn carried) p rest several e q = ap (λ x. o.then_rest x several) e

pub match_means : {X : Type 0} (found : Option (List Value)) (go : List Value → Spent X) (other : Spent X) (follow : List Value → X) (outcome : X)
    → ((vs : List Value) → (go vs).outcome ≡ follow vs) → other.outcome ≡ outcome → (o.on_match found go other).outcome ≡ o.on_match found follow outcome
match_means None go other follow outcome p q = q
match_means (Some vs) go other follow outcome p q = p vs

pub either_means : {X : Type 0} (b : Bool) (x y : Spent X) (p q : X) → x.outcome ≡ p → y.outcome ≡ q → (if b then x else y).outcome ≡ (if b then p else q)
either_means true x y p q f g = f
either_means false x y p q f g = g

ended_means : (count : ℕ) (s : Spent Outcome) (p : Outcome) → s.outcome ≡ p → (ended count s).outcome ≡ p
ended_means count s p e = by s.outcome ∙ e
  where
    by : (x : Outcome) → (go_on x (λ v. spends (instructions count) (Gives v))).outcome ≡ x
    by (Gives v) = refl
    by (Raises exn carried) = refl

copied_means : (count : ℕ) (s : Outcome) → (copied count s).outcome ≡ s
copied_means count (Gives v) = refl
copied_means count (Raises exn carried) = refl

-- the element of a vector, from the values of both parts
item_means : (n : ℕ) (a b : Outcome) → o.with_all (o.then_rest a (o.then_rest b (All []))) (item_at n) ≡ o.and_then a (λ v. o.and_then b (item_of n v))
item_means n (Gives v) (Gives k) = refl
item_means n (Gives v) (Raises x c) = refl
item_means n (Raises x c) b = refl

changed_means : (n : ℕ) (a b c : Outcome) → o.with_all (o.then_rest a (o.then_rest b (o.then_rest c (All [])))) (changed n) ≡ o.and_then a (λ v. o.and_then b (λ k. o.and_then c (updated n v k)))
changed_means n (Gives v) (Gives k) (Gives e) = refl
changed_means n (Gives v) (Gives k) (Raises x s) = refl
changed_means n (Gives v) (Raises x s) c = refl
changed_means n (Raises x s) b c = refl

module _ (call : ℕ → List Value → Spent Outcome) (calls : m.Calls) (called : (f : ℕ) (args : List Value) → (call f args).outcome ≡ calls f args) where
  abbrev pub spending : Expr → Spending
  spending = spent_with call

  abbrev pub meaning : Expr → o.Meaning
  meaning = m.eval_with calls

  abbrev pub Agrees : Expr → Type 0
  Agrees e = (env : List Value) → (spending e env).outcome ≡ meaning e env

  abbrev Part : Type 0
  Part = (e : Expr) × Agrees e

  abbrev of_part : Part → Expr
  of_part p = p.0

  abbrev meanings : List Part → List o.Meaning
  meanings ps = map meaning (map of_part ps)

  parts_mean : (ps : List Part) (env : List Value) → (parts_spent (map spending (map of_part ps)) env).outcome ≡ o.in_order (meanings ps) env
  parts_mean [] env = refl
  parts_mean (p ∷ ps) env = rest_means (spending p.0 env).outcome (meaning p.0 env) (parts_spent (map spending (map of_part ps)) env) _ (p.1 env) (parts_mean ps env)

  all_parts : (ps : List Part) (env : List Value) (go : List Value → Spent Outcome) (follow : List Value → Outcome) → ((vs : List Value) → (go vs).outcome ≡ follow vs)
      → (with_all (parts_spent (map spending (map of_part ps)) env) go).outcome ≡ o.with_all (o.in_order (meanings ps) env) follow
  all_parts ps env go follow q = all_means (parts_spent (map spending (map of_part ps)) env).outcome (o.in_order (meanings ps) env) go follow (parts_mean ps env) q

  abbrev arm_of : PatC × Part → PatC × Expr
  arm_of arm = (arm.0, of_part arm.1)

  abbrev arm_spending : PatC × Expr → PatC × Spending
  arm_spending arm = (arm.0, spending arm.1)

  abbrev arm_meaning : PatC × Expr → PatC × o.Meaning
  arm_meaning arm = (arm.0, meaning arm.1)

  arms_mean : (arms : List (PatC × Part)) (v : Value) (env : List Value)
      → (first_arm (map arm_spending (map arm_of arms)) v env).outcome ≡ m.first_arm (map arm_meaning (map arm_of arms)) v env
  arms_mean [] v env = refl
  arms_mean (arm ∷ arms) v env =
      match_means (matches arm.0 v) (taken 2 (λ vs. spending arm.1.0 (env ++ vs))) (first_arm (map arm_spending (map arm_of arms)) v env) _ _
      (λ vs. ended_means 2 (spending arm.1.0 (env ++ vs)) _ (arm.1.1 (env ++ vs))) (arms_mean arms v env)

  abbrev layer : Expr-F Part → Expr-F Expr
  layer y = map-Expr Part Expr of_part y

  step_means : (y : Expr-F Part) (env : List Value)
      → (spent_step call (map-Expr Expr Spending spending (layer y)) env).outcome ≡ m.eval_step calls (map-Expr Expr o.Meaning meaning (layer y)) env
  step_means (Expr-F.Word w) env = refl
  step_means (Expr-F.Var i) env = refl
  step_means (Expr-F.Con c ps) env = all_parts ps env _ _ (λ vs. refl)
  step_means (Expr-F.Tuple ps) env = all_parts ps env _ _ (λ vs. refl)
  step_means (Expr-F.Vect ps) env = all_parts ps env _ _ (λ vs. refl)
  step_means (Expr-F.Prim op ty ps) env = all_parts ps env _ _ (λ vs. refl)
  step_means (Expr-F.Index n v k) env = all_parts (v ∷ k ∷ []) env _ (item_at n) (λ vs. refl) ∙ item_means n (meaning v.0 env) (meaning k.0 env)
  step_means (Expr-F.Update n v k e) env =
      all_parts (v ∷ k ∷ e ∷ []) env _ (changed n) (λ vs. copied_means n (changed n vs)) ∙ changed_means n (meaning v.0 env) (meaning k.0 env) (meaning e.0 env)
  step_means (Expr-F.If test a b) env =
      then_means (spending test.0 env).outcome _ _ _ (test.1 env)
      (λ v. either_means (word_of_value v == 0) (spending b.0 env) (ended 1 (spending a.0 env)) _ _ (b.1 env) (ended_means 1 (spending a.0 env) _ (a.1 env)))
  step_means (Expr-F.Case of forms arms) env = then_means (spending of.0 env).outcome _ _ _ (of.1 env) (λ v. arms_mean arms v env)
  step_means (Expr-F.Let a b) env = then_means (spending a.0 env).outcome _ _ _ (a.1 env) (λ v. ended_means 1 (spending b.0 (env ++ v ∷ [])) _ (b.1 (env ++ v ∷ [])))
  step_means (Expr-F.Call f ps) env = all_parts ps env _ _ (λ vs. called f vs)
  step_means (Expr-F.Raise x None) env = refl
  step_means (Expr-F.Raise x (Some p)) env = then_means (spending p.0 env).outcome _ _ _ (p.1 env) (λ v. refl)

  layer_means : (y : Expr-F Part) → Agrees (roll-Expr (layer y))
  layer_means y env = rw (fold-roll-Expr Spending (spent_step call) (layer y), fold-roll-Expr o.Meaning (m.eval_step calls) (layer y)) (step_means y env)

  pub means : (e : Expr) → Agrees e
  means = ind-Expr Agrees (λ x y is. subst (λ z. Agrees (roll-Expr z)) is (layer_means y))

module _ (spending : Expr → Spending) (meaning : Expr → o.Meaning) (agree : (e : Expr) (env : List Value) → (spending e env).outcome ≡ meaning e env) where
  equations_mean : (equations : List EqC) (args : List Value) → (first_equation spending equations args).outcome ≡ m.first_equation meaning equations args
  equations_mean [] args = refl
  equations_mean (equation ∷ equations) args =
      match_means (matches_all equation.pats args) (taken 1 (spending equation.body)) (first_equation spending equations args) _ _
      (λ vs. ended_means 1 (spending equation.body vs) _ (agree equation.body vs)) (equations_mean equations args)

  function_means : (function : Option FunC) (args : List Value) → (call_of spending function args).outcome ≡ m.call_of meaning function args
  function_means None args = refl
  function_means (Some function) args = equations_mean function.equations args

pub calls_mean : (core : Core) (limit f : ℕ) (args : List Value) → (spent_below core limit f args).outcome ≡ m.call_below core limit f args
unfolding spent_below m.call_below
calls_mean core zero f args = refl
calls_mean core (suc limit) f args =
    either_means (f == limit) _ _ _ _ (function_means (spent_with (spent_below core limit)) (m.eval_with (m.call_below core limit))
    (λ e env. means (spent_below core limit) (m.call_below core limit) (λ g us. calls_mean core limit g us) e env) (slice_get core.funs limit) args)
    (calls_mean core limit f args)

pub comes_to : (core : Core) (env : List Value) (e : Expr) → (spent core env e).outcome ≡ m.eval core env e
comes_to core env e =
    means (spent_below core (length core.funs)) (m.call_below core (length core.funs)) (λ f args. calls_mean core (length core.funs) f args) e env
