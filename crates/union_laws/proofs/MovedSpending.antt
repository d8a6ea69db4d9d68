-- A moved box takes in each step what the box takes.
use Rattle.std.proofs.Common.{◌≡◌, ℕ, zero, suc, ◌+◌, ◌<◌, ◌==◌, nat_lt, Bool, true, false, if◌then◌else◌, List, [], ◌∷◌, ◌++◌, length, map, Option, Some, None, slice_get, refl, ap, sym, ◌∙◌, arith, inl, inr}
use Rattle.std.specs.List.{list_all}
use Rattle.std.proofs.lemmas.Bool.{and_parts, cases_eq, eq-eqb, ltb-true, ne_eqb}
use Rattle.std.proofs.lemmas.Option.{slice_get_within}
use Rattle.hume_base.specs.declared.types.Value.{Value, Con, Tuple, Vector}
use Rattle.hume_base.specs.Flat.{word_of_value}
use Rattle.hume_model.specs.declared.core_tree.PatC.{PatC}
use Rattle.hume_model.specs.declared.core_tree.Expr.{Expr, map-Expr}
use Rattle.hume_model.specs.declared.core_tree.Expr.TheOpen.{Expr-F}
use Rattle.hume_model.specs.declared.core_tree.EqC.{EqC}
use Rattle.hume_model.specs.declared.core_tree.FunC.{FunC}
use Rattle.hume_model.specs.declared.core_tree.Core.{Core}
use Rattle.hume_model.specs.declared.outcome.Outcome.{Outcome}
use Rattle.hume_model.specs.declared.outcome.Outcome.TheVariants.{Gives, Raises}
use Rattle.hume_model.specs.declared.outcome.Several.{Several}
use Rattle.hume_model.specs.declared.outcome.Several.TheVariants.{All, Raised}
use Rattle.hume_model.specs.declared.outcome.Outputs.{Outputs}
use Rattle.hume_model.specs.Calls.{CallsGoDown, calls_below, equation_calls}
use Rattle.hume_model.specs.Operations.{prim}
use Rattle.hume_model.specs.Outcomes.{on_match}
use Rattle.hume_model.specs.Patterns.{matches, matches_all}
use Rattle.box_costs.specs.Costs.{above, instructions, pushed}
use Rattle.box_costs.specs.PatternTests.{tries, tries_all}
use Rattle.box_costs.specs.Spending.{Spending, Spent, after, and_then, call_of, changed, copied, ended, first_arm, first_equation, go_on, go_on_all, item_at, object_made, over, parts_spent, rest_after, spends, spent_below, spent_step, spent_with, taken, with_all}
use Rattle.box_costs.specs.ResultSpending as result
use Rattle.union_laws.specs.declared.moves.Moves.{Moves}
use Rattle.union_laws.specs.Moving.{moved, moved_equation, moved_exn, moved_function, moved_layer, moved_type}
use Rattle.union_laws.specs.inner.Outcomes.{moved_outcome, moved_outputs, moved_several}
use Rattle.union_laws.proofs.MovedCalls.{there_is}
use Rattle.union_laws.proofs.MovedFolds.{IsKnownCall, moved_same}
use Rattle.union_laws.proofs.MovedMeaning.{after_same, item_same, prim_same, updated_same}

module _ (moves : Moves) where
  -- the same is spent, and what comes of it has moved exceptions
  abbrev pub lift : Spent Outcome → Spent Outcome
  lift s = spends s.cost (moved_outcome moves s.outcome)

  abbrev pub lift_all : Spent Several → Spent Several
  lift_all s = spends s.cost (moved_several moves s.outcome)

  abbrev pub lift_outs : Spent Outputs → Spent Outputs
  lift_outs s = spends s.cost (moved_outputs moves s.outcome)

  go_same : (o : Outcome) (go other : Value → Spent Outcome) → ((v : Value) → other v ≡ lift (go v)) → go_on (moved_outcome moves o) other ≡ lift (go_on o go)
  go_same (Gives v) go other same = same v
  go_same (Raises exn carried) go other same = refl

  then_same : (s : Spent Outcome) (go other : Value → Spent Outcome) → ((v : Value) → other v ≡ lift (go v)) → and_then (lift s) other ≡ lift (and_then s go)
  then_same s go other same = ap (after s.cost) (go_same s.outcome go other same)

  go_all_same : (o : Several) (go other : List Value → Spent Outcome) → ((vs : List Value) → other vs ≡ lift (go vs))
      → go_on_all (moved_several moves o) other ≡ lift (go_on_all o go)
  go_all_same (All vs) go other same = same vs
  go_all_same (Raised exn carried) go other same = refl

  with_same : (s : Spent Several) (go other : List Value → Spent Outcome) → ((vs : List Value) → other vs ≡ lift (go vs)) → with_all (lift_all s) other ≡ lift (with_all s go)
  with_same s go other same = ap (after s.cost) (go_all_same s.outcome go other same)

  rest_same : (o : Outcome) (rest : Spent Several) → rest_after (moved_outcome moves o) (lift_all rest) ≡ lift_all (rest_after o rest)
  rest_same (Gives v) rest = ap (spends (above 1 rest.cost)) (after_same moves (v ∷ []) rest.outcome)
  rest_same (Raises exn carried) rest = refl

  abbrev like : Spending → Spending
  like spending env = lift (spending env)

  parts_same : (parts : List Spending) (env : List Value) → parts_spent (map like parts) env ≡ lift_all (parts_spent parts env)
  parts_same [] env = refl
  parts_same (part ∷ parts) env =
      ap (λ rest. after (part env).cost (rest_after (moved_outcome moves (part env).outcome) rest)) (parts_same parts env)
      ∙ ap (after (part env).cost) (rest_same (part env).outcome (parts_spent parts env))

  ended_same : (count : ℕ) (s : Spent Outcome) → ended count (lift s) ≡ lift (ended count s)
  ended_same count s = then_same s (λ v. spends (instructions count) (Gives v)) (λ v. spends (instructions count) (Gives v)) (λ v. refl)

  item_at_same : (count : ℕ) (vs : List Value) → item_at count vs ≡ moved_outcome moves (item_at count vs)
  item_at_same count [] = refl
  item_at_same count (v ∷ []) = refl
  item_at_same count (v ∷ p ∷ []) = item_same moves count v p
  item_at_same count (v ∷ p ∷ e ∷ more) = refl

  changed_same : (count : ℕ) (vs : List Value) → changed count vs ≡ moved_outcome moves (changed count vs)
  changed_same count [] = refl
  changed_same count (v ∷ []) = refl
  changed_same count (v ∷ p ∷ []) = refl
  changed_same count (v ∷ p ∷ e ∷ []) = updated_same moves count v p e
  changed_same count (v ∷ p ∷ e ∷ f ∷ more) = refl

  copied_same : (count : ℕ) (o : Outcome) → copied count (moved_outcome moves o) ≡ lift (copied count o)
  copied_same count (Gives v) = refl
  copied_same count (Raises exn carried) = refl

  match_same : (o : Option (List Value)) (go other : List Value → Spent Outcome) (x y : Spent Outcome) → ((vs : List Value) → other vs ≡ lift (go vs)) → y ≡ lift x
      → on_match o other y ≡ lift (on_match o go x)
  match_same None go other x y same none = none
  match_same (Some vs) go other x y same none = same vs

  taken_same : (ending : ℕ) (go : List Value → Spent Outcome) (vs : List Value) → taken ending (λ ws. lift (go ws)) vs ≡ lift (taken ending go vs)
  taken_same ending go vs = ap (λ s. over (length vs) (after (instructions (length vs)) s)) (ended_same ending (go vs))

  abbrev arm_like : PatC × Spending → PatC × Spending
  arm_like arm = (arm.0, like arm.1)

  arms_same : (arms : List (PatC × Spending)) (v : Value) (env : List Value) → first_arm (map arm_like arms) v env ≡ lift (first_arm arms v env)
  arms_same [] v env = refl
  arms_same (arm ∷ arms) v env =
      ap (after (instructions (tries arm.0 v).tests))
      (match_same (matches arm.0 v) (taken 2 (λ vs. arm.1 (env ++ vs))) (taken 2 (λ vs. lift (arm.1 (env ++ vs)))) (first_arm arms v env) (first_arm (map arm_like arms) v env)
      (taken_same 2 (λ vs. arm.1 (env ++ vs))) (arms_same arms v env))

  module _ (most : ℕ) (call other : ℕ → List Value → Spent Outcome)
      (calls : (f : ℕ) → nat_lt f most ≡ true → (args : List Value) → other (moves.funs + f) args ≡ lift (call f args)) where
    choice_same : (a b : Spent Outcome) (zero : Bool) → (if zero then lift b else ended 1 (lift a)) ≡ lift (if zero then b else ended 1 a)
    choice_same a b true = refl
    choice_same a b false = ended_same 1 a

    level_same : (y : Expr-F Spending) → IsKnownCall most y → (env : List Value)
        → spent_step other (moved_layer moves (map-Expr Spending Spending like y)) env ≡ lift (spent_step call y env)
    level_same (Expr-F.Word w) known env = refl
    level_same (Expr-F.Var n) known env = refl
    level_same (Expr-F.Con c ps) known env =
        ap (λ s. with_all s (object_made (λ vs. Con c vs))) (parts_same ps env)
        ∙ with_same (parts_spent ps env) (object_made (λ vs. Con c vs)) (object_made (λ vs. Con c vs)) (λ vs. refl)
    level_same (Expr-F.Tuple ps) known env =
        ap (λ s. with_all s (object_made (λ vs. Tuple vs))) (parts_same ps env)
        ∙ with_same (parts_spent ps env) (object_made (λ vs. Tuple vs)) (object_made (λ vs. Tuple vs)) (λ vs. refl)
    level_same (Expr-F.Vect ps) known env =
        ap (λ s. with_all s (object_made (λ vs. Vector vs))) (parts_same ps env)
        ∙ with_same (parts_spent ps env) (object_made (λ vs. Vector vs)) (object_made (λ vs. Vector vs)) (λ vs. refl)
    level_same (Expr-F.Prim op ty ps) known env =
        ap (λ s. with_all s (λ vs. spends pushed (prim op (moved_type moves ty) vs))) (parts_same ps env)
        ∙ with_same (parts_spent ps env) (λ vs. spends pushed (prim op ty vs)) (λ vs. spends pushed (prim op (moved_type moves ty) vs))
        (λ vs. ap (spends pushed) (prim_same moves op ty vs))
    level_same (Expr-F.Index n v k) known env =
        ap (λ s. with_all s (λ vs. spends pushed (item_at n vs))) (parts_same (v ∷ k ∷ []) env)
        ∙ with_same (parts_spent (v ∷ k ∷ []) env) (λ vs. spends pushed (item_at n vs)) (λ vs. spends pushed (item_at n vs)) (λ vs. ap (spends pushed) (item_at_same n vs))
    level_same (Expr-F.Update n v k e) known env =
        ap (λ s. with_all s (λ vs. copied n (changed n vs))) (parts_same (v ∷ k ∷ e ∷ []) env)
        ∙ with_same (parts_spent (v ∷ k ∷ e ∷ []) env) (λ vs. copied n (changed n vs)) (λ vs. copied n (changed n vs))
        (λ vs. ap (copied n) (changed_same n vs) ∙ copied_same n (changed n vs))
    level_same (Expr-F.If t a b) known env =
        then_same (t env) (λ v. after (instructions 1) (if word_of_value v == 0 then b env else ended 1 (a env)))
        (λ v. after (instructions 1) (if word_of_value v == 0 then lift (b env) else ended 1 (lift (a env))))
        (λ v. ap (after (instructions 1)) (choice_same (a env) (b env) (word_of_value v == 0)))
    level_same (Expr-F.Case e forms arms) known env =
        then_same (e env) (λ v. over 1 (first_arm arms v env)) (λ v. over 1 (first_arm (map arm_like arms) v env)) (λ v. ap (over 1) (arms_same arms v env))
    level_same (Expr-F.Let a b) known env =
        then_same (a env) (λ v. over 1 (ended 1 (b (env ++ v ∷ [])))) (λ v. over 1 (ended 1 (lift (b (env ++ v ∷ []))))) (λ v. ap (over 1) (ended_same 1 (b (env ++ v ∷ []))))
    level_same (Expr-F.Call f ps) known env =
        ap (λ s. with_all s (λ vs. over (length vs + 2) (after (instructions 1) (other (moves.funs + f) vs)))) (parts_same ps env)
        ∙ with_same (parts_spent ps env) (λ vs. over (length vs + 2) (after (instructions 1) (call f vs))) (λ vs. over (length vs + 2) (after (instructions 1) (other (moves.funs + f) vs)))
        (λ vs. ap (λ s. over (length vs + 2) (after (instructions 1) s)) (calls f known vs))
    level_same (Expr-F.Raise x None) known env = refl
    level_same (Expr-F.Raise x (Some p)) known env =
        then_same (p env) (λ v. spends (instructions 1) (Raises x (Some v))) (λ v. spends (instructions 1) (Raises (moved_exn moves x) (Some v))) (λ v. refl)

    pub spending_same : (e : Expr) → calls_below most e ≡ true → (env : List Value) → spent_with other (moved moves e) env ≡ lift (spent_with call e env)
    spending_same e known env =
        ap (λ (m : Spending). m env)
        (moved_same Spending (spent_step call) (spent_step other) like moves most (λ y call_known. λ i env. level_same y call_known env i) e known)

    equations_same : (equations : List EqC) → list_all (equation_calls most) equations ≡ true → (args : List Value)
        → first_equation (spent_with other) (map (moved_equation moves) equations) args ≡ lift (first_equation (spent_with call) equations args)
    equations_same [] known args = refl
    equations_same (equation ∷ equations) known args =
        let parts = and_parts (equation_calls most equation) (list_all (equation_calls most) equations) known in
        ap (after (instructions (tries_all equation.pats args).tests))
        (match_same (matches_all equation.pats args) (taken 1 (spent_with call equation.body)) (taken 1 (spent_with other (moved moves equation.body)))
        (first_equation (spent_with call) equations args) (first_equation (spent_with other) (map (moved_equation moves) equations) args)
        (λ vs. (λ i. taken 1 (λ ws. spending_same equation.body parts.0 ws i) vs) ∙ taken_same 1 (spent_with call equation.body) vs) (equations_same equations parts.1 args))

    pub function_spends : (function : FunC) → list_all (equation_calls most) function.equations ≡ true → (args : List Value)
        → call_of (spent_with other) (Some (moved_function moves function)) args ≡ lift (call_of (spent_with call) (Some function) args)
    function_spends function known args = equations_same function.equations known args

spent-at : (core : Core) (most function : ℕ) (args : List Value) → function < most
    → spent_below core most function args ≡ call_of (spent_with (spent_below core function)) (slice_get core.funs function) args
unfolding spent_below
spent-at core zero function args below = absurd (omega arith)
spent-at core (suc most) function args below = elim (cases_eq function most) [
  | inl same ↦ rw (eq-eqb function most same) (ap (λ k. call_of (spent_with (spent_below core k)) (slice_get core.funs k) args) (sym same))
  | inr other ↦ rw (ne_eqb function most other) (spent-at core most function args (omega arith))
]

module _ (moves : Moves) (small large : Core) (down : CallsGoDown small)
    (funs : (n : ℕ) (function : FunC) → slice_get small.funs n ≡ Some function → slice_get large.funs (moves.funs + n) ≡ Some (moved_function moves function)) where
  called : (n f k m : ℕ) → f < n → f < length small.funs → f < k → moves.funs + f < m → (args : List Value)
      → spent_below large m (moves.funs + f) args ≡ lift moves (spent_below small k f args)
  called zero f k m less within below above args = absurd (omega arith)
  called (suc n) f k m less within below above args =
      let at = there_is small.funs f within in
      spent-at large m (moves.funs + f) args above
      ∙ ap (λ o. call_of (spent_with (spent_below large (moves.funs + f))) o args) (funs f at.0 at.1)
      ∙ function_spends moves f (spent_below small f) (spent_below large (moves.funs + f))
      (λ g known vs. let lower : g < f = ltb-true g f known in called n g f (moves.funs + f) (omega (arith, lower, less)) (omega (arith, lower, within)) lower (omega (arith, lower)) vs)
      at.0 (down f at.0 at.1) args
      ∙ ap (lift moves) (sym (spent-at small k f args below ∙ ap (λ o. call_of (spent_with (spent_below small f)) o args) at.1))

  pub moved_spends : (e : Expr) → calls_below (length small.funs) e ≡ true → (env : List Value) → result.spending_in large (moved moves e) env ≡ lift moves (result.spending_in small e env)
  moved_spends e known env =
      spending_same moves (length small.funs) (spent_below small (length small.funs)) (spent_below large (length large.funs))
      (λ f less vs.
      let within : f < length small.funs = ltb-true f (length small.funs) less in
      let at = there_is small.funs f within in
      called (suc f) f (length small.funs) (length large.funs) (omega arith) within within (slice_get_within large.funs (moves.funs + f) _ (funs f at.0 at.1)) vs)
      e known env
