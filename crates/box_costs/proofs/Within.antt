-- An evaluation takes no more than its bound.
use Rattle.std.proofs.Common.{◌≡◌, ℕ, zero, suc, ◌+◌, ◌==◌, ◌≤◌, Bool, true, false, if◌then◌else◌, List, [], ◌∷◌, ◌++◌, map, length, Option, Some, None, slice_get, refl, ap, subst, arith}
use Rattle.hume_base.specs.declared.types.Value.{Value}
use Rattle.hume_base.specs.Flat.{word_of_value}
use Rattle.hume_model.specs.declared.core_tree.PatC.{PatC}
use Rattle.hume_model.specs.declared.core_tree.Expr.{Expr, roll-Expr, map-Expr, fold-roll-Expr, ind-Expr}
use Rattle.hume_model.specs.declared.core_tree.Expr.TheOpen.{Expr-F}
use Rattle.hume_model.specs.declared.core_tree.EqC.{EqC}
use Rattle.hume_model.specs.declared.core_tree.FunC.{FunC}
use Rattle.hume_model.specs.declared.core_tree.Core.{Core}
use Rattle.hume_model.specs.declared.outcome.Outcome.{Outcome}
use Rattle.hume_model.specs.declared.outcome.Outcome.TheVariants.{Gives, Raises}
use Rattle.hume_model.specs.declared.outcome.Several.{Several}
use Rattle.hume_model.specs.declared.outcome.Several.TheVariants.{All, Raised}
use Rattle.hume_model.specs.Outcomes.{on_match}
use Rattle.hume_model.specs.Operations.{prim}
use Rattle.hume_model.specs.Patterns.{matches, matches_all}
use Rattle.box_costs.specs.declared.cost.Cost.{Cost}
use Rattle.box_costs.specs.Costs.{nothing, instructions, pushed, made, above, both, either, in_order, Way, one_way, with_variables, IsAtMost}
use Rattle.box_costs.specs.PatternTests.{variables_of, variables_of_all}
use Rattle.box_costs.specs.Bounds.{arm_way, bound_step, bound_with, equation_way, function_bound, bound_below, expression_bound}
use Rattle.box_costs.specs.Spending.{Spent, Spending, spends, after, over, and_then, ended, with_all, rest_after, parts_spent, object_made, item_at, changed, copied, taken, first_arm, spent_step, spent_with, first_equation, call_of, spent_below, spent}
use Rattle.box_costs.proofs.CostSteps.{self_most, both_most, above_most, nothing_most, left_most, right_most, first_way, other_way, no_way}
use Rattle.box_costs.proofs.Trials.{trial, trials}

pub then_within : (x : Cost) (o : Outcome) (go : Value → Spent Outcome) (c d : Cost) → IsAtMost x c → ((v : Value) → IsAtMost (go v).cost d)
    → IsAtMost (and_then (spends x o) go).cost (both c d)
then_within x (Gives v) go c d p q = both_most x c _ d p (q v)
then_within x (Raises exn carried) go c d p q = both_most x c _ d p (nothing_most d)

all_within : (x : Cost) (o : Several) (go : List Value → Spent Outcome) (c d : Cost) (n : ℕ) → IsAtMost x c → ((vs : List Value) → o ≡ All vs → length vs ≡ n)
    → ((vs : List Value) → length vs ≡ n → IsAtMost (go vs).cost d) → IsAtMost (with_all (spends x o) go).cost (both c d)
all_within x (All vs) go c d n p l q = both_most x c _ d p (q vs (l vs refl))
all_within x (Raised exn carried) go c d n p l q = both_most x c _ d p (nothing_most d)

ended_within : (count : ℕ) (s : Spent Outcome) (c : Cost) → IsAtMost s.cost c → IsAtMost (ended count s).cost (both c (instructions count))
ended_within count s c p = then_within s.cost s.outcome (λ v. spends (instructions count) (Gives v)) c (instructions count) p (λ v. self_most _)

taken_within : (ending : ℕ) (go : List Value → Spent Outcome) (vs : List Value) (n : ℕ) (c : Cost) → length vs ≡ n → IsAtMost (go vs).cost c
    → IsAtMost (taken ending go vs).cost (with_variables n ending c)
taken_within ending go vs n c e p =
    subst (λ k. IsAtMost (taken ending go vs).cost (with_variables k ending c)) e
    (above_most (length vs) _ _ (both_most _ _ _ _ (self_most (instructions (length vs))) (ended_within ending (go vs) c p)))

pub match_within : {X : Type 0} (tests : ℕ) (m : Option (List Value)) (go : List Value → Spent X) (other : Spent X) (way : Way) (ways : List Way) → tests ≤ way.tests
    → ((vs : List Value) → m ≡ Some vs → IsAtMost (go vs).cost way.taken) → IsAtMost other.cost (one_way ways)
    → IsAtMost (after (instructions tests) (on_match m go other)).cost (one_way (way ∷ ways))
match_within tests None go other way ways few p q = other_way way ways tests other.cost few q
match_within tests (Some vs) go other way ways few p q = first_way way ways tests (go vs).cost few (p vs refl)

either_within : (b : Bool) (x y : Spent Outcome) (c d : Cost) → IsAtMost x.cost c → IsAtMost y.cost d → IsAtMost (if b then y else x).cost (either c d)
either_within true x y c d p q = right_most _ c d q
either_within false x y c d p q = left_most _ c d p

copied_within : (count : ℕ) (o : Outcome) → IsAtMost (copied count o).cost (made count)
copied_within count (Gives v) = self_most _
copied_within count (Raises exn carried) = record { heap = omega arith; stack = omega arith; work = omega arith }

unwrap_all : (xs ys : List Value) → All xs ≡ All ys → xs ≡ ys
unwrap_all xs ys e = cc

rest_within : (x : Cost) (o : Outcome) (rest : Spent Several) (c d : Cost) → IsAtMost x c → IsAtMost rest.cost d
    → IsAtMost (after x (rest_after o rest)).cost (both c (above 1 d))
rest_within x (Gives v) rest c d p q = both_most x c _ _ p (above_most 1 _ _ q)
rest_within x (Raises exn carried) rest c d p q = both_most x c _ _ p (nothing_most _)

rest_count : (o : Outcome) (r : Cost) (rest : Several) (n : ℕ) (vs : List Value) → ((us : List Value) → rest ≡ All us → length us ≡ n)
    → (rest_after o (spends r rest)).outcome ≡ All vs → length vs ≡ suc n
rest_count (Gives v) r (All us) n vs p h = let e : v ∷ us ≡ vs = unwrap_all _ _ h in rw (← e) (ap suc (p us refl))
rest_count (Gives v) r (Raised exn carried) n vs p h = cc
rest_count (Raises exn carried) r rest n vs p h = cc

module _ (call : ℕ → List Value → Spent Outcome) (bounds : ℕ → Cost) (called : (f : ℕ) (args : List Value) → IsAtMost (call f args).cost (bounds f)) where
  abbrev pub spending : Expr → Spending
  spending = spent_with call

  abbrev pub bound : Expr → Cost
  bound = bound_with bounds

  abbrev pub Keeps : Expr → Type 0
  Keeps e = (env : List Value) → IsAtMost (spending e env).cost (bound e)

  abbrev Part : Type 0
  Part = (e : Expr) × Keeps e

  abbrev of_part : Part → Expr
  of_part p = p.0

  abbrev spendings : List Part → List Spending
  spendings ps = map spending (map of_part ps)

  abbrev bounds_of : List Part → List Cost
  bounds_of ps = map bound (map of_part ps)

  record PartsKeep (ps : List Part) (env : List Value) : Type 0 where
    within : IsAtMost (parts_spent (spendings ps) env).cost (in_order (bounds_of ps))
    count : (vs : List Value) → (parts_spent (spendings ps) env).outcome ≡ All vs → length vs ≡ length (bounds_of ps)

  none_count : (vs : List Value) → All [] ≡ All vs → length vs ≡ 0
  none_count vs e = rw (← unwrap_all _ _ e) refl

  parts_keep : (ps : List Part) (env : List Value) → PartsKeep ps env
  parts_keep [] env = record { within = self_most nothing; count = none_count }
  parts_keep (p ∷ ps) env =
      let rest = parts_keep ps env in
      let s = spending p.0 env in
      let others = parts_spent (spendings ps) env in
      record {
        within = rest_within s.cost s.outcome others (bound p.0) (in_order (bounds_of ps)) (p.1 env) rest.within;
        count = λ vs e. rest_count s.outcome others.cost others.outcome (length (bounds_of ps)) vs rest.count e;
      }

  all_parts : (ps : List Part) (env : List Value) (go : List Value → Spent Outcome) (d : Cost)
      → ((vs : List Value) → length vs ≡ length (bounds_of ps) → IsAtMost (go vs).cost d)
      → IsAtMost (with_all (parts_spent (spendings ps) env) go).cost (both (in_order (bounds_of ps)) d)
  all_parts ps env go d q =
      let keep = parts_keep ps env in
      let s = parts_spent (spendings ps) env in
      all_within s.cost s.outcome go (in_order (bounds_of ps)) d (length (bounds_of ps)) keep.within keep.count q

  object_within : (ps : List Part) (make : List Value → Value) (env : List Value)
      → IsAtMost (with_all (parts_spent (spendings ps) env) (object_made make)).cost (both (in_order (bounds_of ps)) (made (length (bounds_of ps))))
  object_within ps make env = all_parts ps env (object_made make) (made (length (bounds_of ps))) (λ vs e. subst (λ n. IsAtMost (made (length vs)) (made n)) e (self_most _))

  abbrev arm_of : PatC × Part → PatC × Expr
  arm_of arm = (arm.0, of_part arm.1)

  abbrev arm_spending : PatC × Expr → PatC × Spending
  arm_spending arm = (arm.0, spending arm.1)

  abbrev arm_bound : PatC × Expr → PatC × Cost
  arm_bound arm = (arm.0, bound arm.1)

  arms_within : (arms : List (PatC × Part)) (v : Value) (env : List Value)
      → IsAtMost (first_arm (map arm_spending (map arm_of arms)) v env).cost (one_way (map (arm_way 2) (map arm_bound (map arm_of arms))))
  arms_within [] v env = no_way []
  arms_within (arm ∷ arms) v env =
      let t = trial arm.0 v in
      let go : List Value → Spent Outcome = λ vs. spending arm.1.0 (env ++ vs) in
      match_within _ (matches arm.0 v) (taken 2 go) (first_arm (map arm_spending (map arm_of arms)) v env) (arm_way 2 (arm.0, bound arm.1.0)) _ t.few
      (λ vs e. taken_within 2 go vs (variables_of arm.0) (bound arm.1.0) (t.count vs e) (arm.1.1 (env ++ vs))) (arms_within arms v env)

  abbrev layer : Expr-F Part → Expr-F Expr
  layer y = map-Expr Part Expr of_part y

  step_within : (y : Expr-F Part) (env : List Value)
      → IsAtMost (spent_step call (map-Expr Expr Spending spending (layer y)) env).cost (bound_step bounds (map-Expr Expr Cost bound (layer y)))
  step_within (Expr-F.Word w) env = self_most pushed
  step_within (Expr-F.Var i) env = self_most pushed
  step_within (Expr-F.Con c ps) env = object_within ps _ env
  step_within (Expr-F.Tuple ps) env = object_within ps _ env
  step_within (Expr-F.Vect ps) env = object_within ps _ env
  step_within (Expr-F.Prim op ty ps) env = all_parts ps env (λ vs. spends pushed (prim op ty vs)) pushed (λ vs e. self_most pushed)
  step_within (Expr-F.Index n v k) env = all_parts (v ∷ k ∷ []) env (λ vs. spends pushed (item_at n vs)) pushed (λ vs e. self_most pushed)
  step_within (Expr-F.Update n v k e) env = all_parts (v ∷ k ∷ e ∷ []) env (λ vs. copied n (changed n vs)) (made n) (λ vs e. copied_within n (changed n vs))
  step_within (Expr-F.If test a b) env =
      let s = spending test.0 env in
      then_within s.cost s.outcome _ (bound test.0) _ (test.1 env)
      (λ v. both_most _ _ _ _ (self_most (instructions 1))
      (either_within (word_of_value v == 0) (ended 1 (spending a.0 env)) (spending b.0 env) _ _ (ended_within 1 (spending a.0 env) (bound a.0) (a.1 env)) (b.1 env)))
  step_within (Expr-F.Case of forms arms) env =
      let s = spending of.0 env in
      then_within s.cost s.outcome _ (bound of.0) _ (of.1 env) (λ v. above_most 1 _ _ (arms_within arms v env))
  step_within (Expr-F.Let a b) env =
      let s = spending a.0 env in
      then_within s.cost s.outcome _ (bound a.0) _ (a.1 env)
      (λ v. above_most 1 _ _ (ended_within 1 (spending b.0 (env ++ v ∷ [])) (bound b.0) (b.1 (env ++ v ∷ []))))
  step_within (Expr-F.Call f ps) env =
      all_parts ps env (λ vs. over (length vs + 2) (after (instructions 1) (call f vs))) (above (length (bounds_of ps) + 2) (both (instructions 1) (bounds f)))
      (λ vs e. subst (λ n. IsAtMost (above (length vs + 2) (both (instructions 1) (call f vs).cost)) (above (n + 2) (both (instructions 1) (bounds f)))) e
      (above_most (length vs + 2) _ _ (both_most _ _ _ _ (self_most (instructions 1)) (called f vs))))
  step_within (Expr-F.Raise x None) env = self_most (both pushed (instructions 1))
  step_within (Expr-F.Raise x (Some p)) env =
      let s = spending p.0 env in
      then_within s.cost s.outcome _ (bound p.0) (instructions 1) (p.1 env) (λ v. self_most (instructions 1))

  layer_keeps : (y : Expr-F Part) → Keeps (roll-Expr (layer y))
  layer_keeps y env = rw (fold-roll-Expr Spending (spent_step call) (layer y), fold-roll-Expr Cost (bound_step bounds) (layer y)) (step_within y env)

  pub keeps : (e : Expr) → Keeps e
  keeps = ind-Expr Keeps (λ x y is. subst (λ z. Keeps (roll-Expr z)) is (layer_keeps y))

module _ (spending : Expr → Spending) (bound : Expr → Cost) (keep : (e : Expr) (env : List Value) → IsAtMost (spending e env).cost (bound e)) where
  equations_within : (equations : List EqC) (args : List Value) → IsAtMost (first_equation spending equations args).cost (one_way (map (equation_way bound) equations))
  equations_within [] args = no_way []
  equations_within (equation ∷ equations) args =
      let t = trials equation.pats args in
      match_within _ (matches_all equation.pats args) (taken 1 (spending equation.body)) (first_equation spending equations args) (equation_way bound equation) _ t.few
      (λ vs e. taken_within 1 (spending equation.body) vs (variables_of_all equation.pats) (bound equation.body) (t.count vs e) (keep equation.body vs))
      (equations_within equations args)

  function_within : (o : Option FunC) (args : List Value) → IsAtMost (call_of spending o args).cost (function_bound bound o)
  function_within None args = no_way []
  function_within (Some function) args = equations_within function.equations args

choose : (b : Bool) (x y : Spent Outcome) (c d : Cost) → IsAtMost x.cost c → IsAtMost y.cost d → IsAtMost (if b then x else y).cost (if b then c else d)
choose true x y c d p q = p
choose false x y c d p q = q

pub calls_within : (core : Core) (limit f : ℕ) (args : List Value) → IsAtMost (spent_below core limit f args).cost (bound_below core limit f)
unfolding spent_below bound_below
calls_within core zero f args = no_way []
calls_within core (suc limit) f args =
    choose (f == limit) _ _ _ _
    (function_within (spent_with (spent_below core limit)) (bound_with (bound_below core limit))
    (λ e env. keeps (spent_below core limit) (bound_below core limit) (λ g us. calls_within core limit g us) e env) (slice_get core.funs limit) args)
    (calls_within core limit f args)

pub spends_within : (core : Core) (env : List Value) (e : Expr) → IsAtMost (spent core env e).cost (expression_bound core e)
spends_within core env e =
    keeps (spent_below core (length core.funs)) (bound_below core (length core.funs)) (λ f args. calls_within core (length core.funs) f args) e env

module _ (bounds : ℕ → Cost) where
  abbrev Some_word : Expr → Type 0
  Some_word e = 1 ≤ (bound_with bounds e).stack

  abbrev Sized : Type 0
  Sized = (e : Expr) × Some_word e

  abbrev of_sized : Sized → Expr
  of_sized p = p.0

  step_word : (y : Expr-F Sized) → 1 ≤ (bound_step bounds (map-Expr Expr Cost (bound_with bounds) (map-Expr Sized Expr of_sized y))).stack
  step_word (Expr-F.Word w) = omega arith
  step_word (Expr-F.Var i) = omega arith
  step_word (Expr-F.Con c ps) = omega arith
  step_word (Expr-F.Tuple ps) = omega arith
  step_word (Expr-F.Vect ps) = omega arith
  step_word (Expr-F.Prim op ty ps) = omega arith
  step_word (Expr-F.Index n v k) = omega arith
  step_word (Expr-F.Update n v k e) = omega arith
  step_word (Expr-F.If test a b) = let h = test.1 in omega (arith, h)
  step_word (Expr-F.Case of forms arms) = omega arith
  step_word (Expr-F.Let a b) = omega arith
  step_word (Expr-F.Call f ps) = omega arith
  step_word (Expr-F.Raise x None) = omega arith
  step_word (Expr-F.Raise x (Some p)) = let h = p.1 in omega (arith, h)

  layer_word : (y : Expr-F Sized) → Some_word (roll-Expr (map-Expr Sized Expr of_sized y))
  layer_word y = rw (fold-roll-Expr Cost (bound_step bounds) (map-Expr Sized Expr of_sized y)) (step_word y)

  pub takes_word : (e : Expr) → Some_word e
  takes_word = ind-Expr Some_word (λ x y is. subst (λ z. Some_word (roll-Expr z)) is (layer_word y))
