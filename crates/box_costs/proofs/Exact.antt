-- A straight evaluation that gives a value takes just its bound.
use Rattle.std.proofs.Common.{◌≡◌, ℕ, zero, suc, ◌+◌, ◌==◌, Bool, true, false, if◌then◌else◌, List, [], ◌∷◌, ◌++◌, map, length, Option, Some, None, slice_get, refl, ap, sym, ◌∙◌, subst, arith}
use Rattle.std.proofs.lemmas.Bool.{and_parts}
use Rattle.hume_base.specs.declared.types.Value.{Value}
use Rattle.hume_model.specs.declared.core_tree.Expr.{Expr, roll-Expr, map-Expr, fold-roll-Expr, ind-Expr}
use Rattle.hume_model.specs.declared.core_tree.Expr.TheOpen.{Expr-F}
use Rattle.hume_model.specs.declared.core_tree.EqC.{EqC}
use Rattle.hume_model.specs.declared.core_tree.FunC.{FunC}
use Rattle.hume_model.specs.declared.core_tree.Core.{Core}
use Rattle.hume_model.specs.declared.outcome.Outcome.{Outcome}
use Rattle.hume_model.specs.declared.outcome.Outcome.TheVariants.{Gives, Raises}
use Rattle.hume_model.specs.declared.outcome.Several.{Several}
use Rattle.hume_model.specs.declared.outcome.Several.TheVariants.{All, Raised}
use Rattle.hume_model.specs.Outcomes.{on_match}
use Rattle.hume_model.specs.Operations.{prim}
use Rattle.hume_model.specs.Patterns.{matches_all}
use Rattle.hume_model.specs.Calls.{all_true}
use Rattle.box_costs.specs.declared.cost.Cost.{Cost}
use Rattle.box_costs.specs.Costs.{instructions, pushed, made, above, both, in_order, one_way, with_variables}
use Rattle.box_costs.specs.PatternTests.{tries_all, variables_of_all}
use Rattle.box_costs.specs.Bounds.{bound_step, bound_with, equation_way, function_bound, bound_below, expression_bound}
use Rattle.box_costs.specs.Spending.{Spent, Spending, spends, after, over, and_then, ended, with_all, rest_after, parts_spent, object_made, item_at, changed, copied, taken, none_taken, spent_step, spent_with, first_equation, call_of, spent_below, spent}
use Rattle.box_costs.specs.Straight.{straight_step, is_straight_with, is_one_straight, is_straight_function, straight_below, is_straight}
use Rattle.box_costs.proofs.CostSteps.{single_way}
use Rattle.box_costs.proofs.Trials.{trials}

-- where a value is given, just so much is taken
pub record Exactly (s : Spent Outcome) (c : Cost) : Type 0 where
  pub by : (v : Value) → s.outcome ≡ Gives v → s.cost ≡ c

-- where all values are given, they are so many
record ExactlyAll (s : Spent Several) (c : Cost) (count : ℕ) : Type 0 where
  by : (vs : List Value) → s.outcome ≡ All vs → s.cost ≡ c
  many : (vs : List Value) → s.outcome ≡ All vs → length vs ≡ count

pub both_same : (a b c d : Cost) → a ≡ b → c ≡ d → both a c ≡ both b d
both_same a b c d e f = λ i. both (e i) (f i)

simply : (c : Cost) (o : Outcome) → Exactly (spends c o) c
simply c o = record { by = λ v e. refl }

never : (x : ℕ) (k : Option Value) (b c : Cost) → Exactly (spends b (Raises x k)) c
never x k b c = record { by = λ v e. cc }

over_exact : (n : ℕ) (s : Spent Outcome) (c : Cost) → Exactly s c → Exactly (over n s) (above n c)
over_exact n s c p = record { by = λ v e. ap (above n) (p.by v e) }

after_exact : (x : Cost) (s : Spent Outcome) (c : Cost) → Exactly s c → Exactly (after x s) (both x c)
after_exact x s c p = record { by = λ v e. ap (both x) (p.by v e) }

then_exact : (x : Cost) (o : Outcome) (go : Value → Spent Outcome) (c d : Cost) → Exactly (spends x o) c → ((v : Value) → Exactly (go v) d)
    → Exactly (and_then (spends x o) go) (both c d)
then_exact x (Gives v) go c d p q = record { by = λ u e. both_same x c _ d (p.by v refl) ((q v).by u e) }
then_exact x (Raises exn carried) go c d p q = never exn carried _ _

all_exact : (x : Cost) (o : Several) (go : List Value → Spent Outcome) (c d : Cost) (n : ℕ) → ExactlyAll (spends x o) c n
    → ((vs : List Value) → length vs ≡ n → Exactly (go vs) d) → Exactly (with_all (spends x o) go) (both c d)
all_exact x (All vs) go c d n p q = record { by = λ u e. both_same x c _ d (p.by vs refl) ((q vs (p.many vs refl)).by u e) }
all_exact x (Raised exn carried) go c d n p q = never exn carried _ _

ended_exact : (count : ℕ) (s : Spent Outcome) (c : Cost) → Exactly s c → Exactly (ended count s) (both c (instructions count))
ended_exact count s c p = then_exact s.cost s.outcome (λ v. spends (instructions count) (Gives v)) c (instructions count) p (λ v. simply (instructions count) (Gives v))

taken_exact : (ending : ℕ) (go : List Value → Spent Outcome) (vs : List Value) (n : ℕ) (c : Cost) → length vs ≡ n → Exactly (go vs) c
    → Exactly (taken ending go vs) (with_variables n ending c)
taken_exact ending go vs n c e p =
    subst (λ k. Exactly (taken ending go vs) (with_variables k ending c)) e
    (over_exact (length vs) _ _ (after_exact (instructions (length vs)) _ _ (ended_exact ending (go vs) c p)))

copied_exact : (count : ℕ) (o : Outcome) → Exactly (copied count o) (made count)
copied_exact count (Gives v) = simply (made count) (Gives v)
copied_exact count (Raises x k) = never x k _ _

same_values : (xs ys : List Value) → All xs ≡ All ys → xs ≡ ys
same_values xs ys e = cc

rest_exact : (x : Cost) (o : Outcome) (r : Cost) (rest : Several) (c d : Cost) (n : ℕ) → Exactly (spends x o) c → ExactlyAll (spends r rest) d n
    → ExactlyAll (after x (rest_after o (spends r rest))) (both c (above 1 d)) (suc n)
rest_exact x (Gives v) r (All us) c d n p q = record {
  by = λ vs e. both_same x c _ _ (p.by v refl) (ap (above 1) (q.by us refl));
  many = λ vs e. (let f : v ∷ us ≡ vs = same_values _ _ e in ap length (sym f) ∙ ap suc (q.many us refl));
}
rest_exact x (Gives v) r (Raised exn k) c d n p q = record { by = λ vs e. cc; many = λ vs e. cc }
rest_exact x (Raises exn k) r rest c d n p q = record { by = λ vs e. cc; many = λ vs e. cc }

module _ (call : ℕ → List Value → Spent Outcome) (bounds : ℕ → Cost) (straight_call : ℕ → Bool)
    (called : (f : ℕ) → straight_call f ≡ true → (args : List Value) → Exactly (call f args) (bounds f)) where
  abbrev pub spending : Expr → Spending
  spending = spent_with call

  abbrev pub bound : Expr → Cost
  bound = bound_with bounds

  abbrev pub straight : Expr → Bool
  straight = is_straight_with straight_call

  abbrev pub Fit : Expr → Type 0
  Fit e = straight e ≡ true → (env : List Value) → Exactly (spending e env) (bound e)

  abbrev Part : Type 0
  Part = (e : Expr) × Fit e

  abbrev of_part : Part → Expr
  of_part p = p.0

  abbrev bounds_of : List Part → List Cost
  bounds_of ps = map bound (map of_part ps)

  parts_exact : (ps : List Part) → all_true (map straight (map of_part ps)) ≡ true → (env : List Value)
      → ExactlyAll (parts_spent (map spending (map of_part ps)) env) (in_order (bounds_of ps)) (length (bounds_of ps))
  parts_exact [] h env = record { by = λ vs e. refl; many = λ vs e. ap length (sym (same_values [] vs e)) }
  parts_exact (p ∷ ps) h env =
      let hs = and_parts _ _ h in
      let s = spending p.0 env in
      let rest = parts_spent (map spending (map of_part ps)) env in
      rest_exact s.cost s.outcome rest.cost rest.outcome _ _ _ (p.1 hs.0 env) (parts_exact ps hs.1 env)

  all_parts : (ps : List Part) → all_true (map straight (map of_part ps)) ≡ true → (env : List Value) (go : List Value → Spent Outcome) (d : Cost)
      → ((vs : List Value) → length vs ≡ length (bounds_of ps) → Exactly (go vs) d)
      → Exactly (with_all (parts_spent (map spending (map of_part ps)) env) go) (both (in_order (bounds_of ps)) d)
  all_parts ps h env go d q =
      let s = parts_spent (map spending (map of_part ps)) env in
      all_exact s.cost s.outcome go _ d (length (bounds_of ps)) (parts_exact ps h env) q

  object_exact : (ps : List Part) (make : List Value → Value) → all_true (map straight (map of_part ps)) ≡ true → (env : List Value)
      → Exactly (with_all (parts_spent (map spending (map of_part ps)) env) (object_made make)) (both (in_order (bounds_of ps)) (made (length (bounds_of ps))))
  object_exact ps make h env =
      all_parts ps h env (object_made make) (made (length (bounds_of ps))) (λ vs e. subst (λ n. Exactly (object_made make vs) (made n)) e (simply _ _))

  two_true : (a b : Bool) → a ≡ true → b ≡ true → all_true (a ∷ b ∷ []) ≡ true
  two_true true b p q = (let e : b ≡ true = q in rw (e) refl)
  two_true false b p q = cc

  three_true : (a b c : Bool) → a ≡ true → b ≡ true → c ≡ true → all_true (a ∷ b ∷ c ∷ []) ≡ true
  three_true true b c p q r = two_true b c q r
  three_true false b c p q r = cc

  abbrev layer : Expr-F Part → Expr-F Expr
  layer y = map-Expr Part Expr of_part y

  step_exact : (y : Expr-F Part) → straight_step straight_call (map-Expr Expr Bool straight (layer y)) ≡ true → (env : List Value)
      → Exactly (spent_step call (map-Expr Expr Spending spending (layer y)) env) (bound_step bounds (map-Expr Expr Cost bound (layer y)))
  step_exact (Expr-F.Word w) h env = simply pushed _
  step_exact (Expr-F.Var i) h env = simply pushed _
  step_exact (Expr-F.Con c ps) h env = object_exact ps _ h env
  step_exact (Expr-F.Tuple ps) h env = object_exact ps _ h env
  step_exact (Expr-F.Vect ps) h env = object_exact ps _ h env
  step_exact (Expr-F.Prim op ty ps) h env = all_parts ps h env (λ vs. spends pushed (prim op ty vs)) pushed (λ vs e. simply pushed _)
  step_exact (Expr-F.Index n v k) h env =
      let hs = and_parts _ _ h in
      all_parts (v ∷ k ∷ []) (two_true (straight v.0) (straight k.0) hs.0 hs.1) env (λ vs. spends pushed (item_at n vs)) pushed (λ vs e. simply pushed _)
  step_exact (Expr-F.Update n v k e) h env =
      let hs = and_parts _ _ h in
      let ks = and_parts _ _ hs.1 in
      all_parts (v ∷ k ∷ e ∷ []) (three_true (straight v.0) (straight k.0) (straight e.0) hs.0 ks.0 ks.1) env (λ vs. copied n (changed n vs)) (made n) (λ vs l. copied_exact n (changed n vs))
  step_exact (Expr-F.If test a b) h env = cc
  step_exact (Expr-F.Case of forms arms) h env = cc
  step_exact (Expr-F.Let a b) h env =
      let hs = and_parts _ _ h in
      let s = spending a.0 env in
      then_exact s.cost s.outcome _ (bound a.0) _ (a.1 hs.0 env)
      (λ v. over_exact 1 _ _ (ended_exact 1 (spending b.0 (env ++ v ∷ [])) (bound b.0) (b.1 hs.1 (env ++ v ∷ []))))
  step_exact (Expr-F.Call f ps) h env =
      let hs = and_parts _ _ h in
      all_parts ps hs.1 env (λ vs. over (length vs + 2) (after (instructions 1) (call f vs))) (above (length (bounds_of ps) + 2) (both (instructions 1) (bounds f)))
      (λ vs e. subst (λ n. Exactly (over (length vs + 2) (after (instructions 1) (call f vs))) (above (n + 2) (both (instructions 1) (bounds f)))) e
      (over_exact (length vs + 2) _ _ (after_exact (instructions 1) (call f vs) (bounds f) (called f hs.0 vs))))
  step_exact (Expr-F.Raise x None) h env = never x None _ _
  step_exact (Expr-F.Raise x (Some p)) h env =
      let s = spending p.0 env in
      then_exact s.cost s.outcome _ (bound p.0) (instructions 1) (p.1 h env) (λ v. never x (Some v) _ _)

  layer_exact : (y : Expr-F Part) → Fit (roll-Expr (layer y))
  layer_exact y h env =
      rw (fold-roll-Expr Spending (spent_step call) (layer y), fold-roll-Expr Cost (bound_step bounds) (layer y))
      (step_exact y (sym (fold-roll-Expr Bool (straight_step straight_call) (layer y)) ∙ h) env)

  pub exact : (e : Expr) → Fit e
  exact = ind-Expr Fit (λ x y is. subst (λ z. Fit (roll-Expr z)) is (layer_exact y))

module _ (spending : Expr → Spending) (bound : Expr → Cost) (straight : Expr → Bool)
    (fit : (e : Expr) → straight e ≡ true → (env : List Value) → Exactly (spending e env) (bound e)) where
  -- the one equation: it matched where a value is given, so that all its tests ran
  one_match : (equation : EqC) (args : List Value) (m : Option (List Value)) → matches_all equation.pats args ≡ m → straight equation.body ≡ true
      → Exactly (after (instructions (tries_all equation.pats args).tests) (on_match m (taken 1 (spending equation.body)) none_taken)) (one_way (equation_way bound equation ∷ []))
  one_match equation args None is h = never _ _ _ _
  one_match equation args (Some vs) is h =
      let t = trials equation.pats args in
      let way = equation_way bound equation in
      let p : Exactly (taken 1 (spending equation.body) vs) way.taken = taken_exact 1 (spending equation.body) vs (variables_of_all equation.pats) (bound equation.body) (t.count vs is) (fit equation.body h vs) in
      record { by = λ v e. both_same _ _ _ _ (ap instructions (t.whole vs is)) (p.by v e) ∙ single_way way (omega arith) }

  equations_exact : (equations : List EqC) → is_one_straight straight equations ≡ true → (args : List Value)
      → Exactly (first_equation spending equations args) (one_way (map (equation_way bound) equations))
  equations_exact [] h args = cc
  equations_exact (equation ∷ []) h args = one_match equation args (matches_all equation.pats args) refl h
  equations_exact (equation ∷ other ∷ more) h args = cc

  function_exact : (o : Option FunC) → is_straight_function straight o ≡ true → (args : List Value) → Exactly (call_of spending o args) (function_bound bound o)
  function_exact None h args = cc
  function_exact (Some function) h args = equations_exact function.equations h args

choose : (b : Bool) (x y : Spent Outcome) (c d : Cost) (p q : Bool) → (if b then p else q) ≡ true → (p ≡ true → Exactly x c) → (q ≡ true → Exactly y d)
    → Exactly (if b then x else y) (if b then c else d)
choose true x y c d p q h f g = f h
choose false x y c d p q h f g = g h

pub calls_exact : (core : Core) (limit f : ℕ) → straight_below core limit f ≡ true → (args : List Value) → Exactly (spent_below core limit f args) (bound_below core limit f)
unfolding spent_below bound_below straight_below
calls_exact core zero f h args = cc
calls_exact core (suc limit) f h args =
    choose (f == limit) _ _ _ _ _ _ h
    (λ k. function_exact (spent_with (spent_below core limit)) (bound_with (bound_below core limit)) (is_straight_with (straight_below core limit))
    (λ e s env. exact (spent_below core limit) (bound_below core limit) (straight_below core limit) (λ g t us. calls_exact core limit g t us) e s env) (slice_get core.funs limit) k args)
    (λ k. calls_exact core limit f k args)

pub spends_exactly : (core : Core) (e : Expr) → is_straight core e ≡ true → (env : List Value) → Exactly (spent core env e) (expression_bound core e)
spends_exactly core e s env =
    exact (spent_below core (length core.funs)) (bound_below core (length core.funs)) (straight_below core (length core.funs)) (λ f t args. calls_exact core (length core.funs) f t args) e s env
