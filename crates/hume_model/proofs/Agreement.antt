-- An evaluation turns only on the functions that it may call.
use Rattle.std.proofs.Common.{◌≡◌, ℕ, ◌<◌, ◌≤◌, Bool, true, List, [], ◌∷◌, ◌++◌, map, Option, Some, None, slice_get, refl, ap, sym, ◌∙◌, subst, arith}
use Rattle.std.proofs.lemmas.Bool.{and_parts, ltb-true}
use Rattle.std.specs.List.{list_all}
use Rattle.hume_base.specs.declared.types.Value.{Value}
use Rattle.hume_model.specs.declared.core_tree.PatC.{PatC}
use Rattle.hume_model.specs.declared.core_tree.Expr.{Expr, roll-Expr, map-Expr, fold-roll-Expr, ind-Expr}
use Rattle.hume_model.specs.declared.core_tree.Expr.TheOpen.{Expr-F}
use Rattle.hume_model.specs.declared.core_tree.EqC.{EqC}
use Rattle.hume_model.specs.declared.core_tree.FunC.{FunC}
use Rattle.hume_model.specs.declared.core_tree.Core.{Core}
use Rattle.hume_model.specs.Outcomes.{Meaning, in_order, with_all, and_then, on_match}
use Rattle.hume_model.specs.Patterns.{matches}
use Rattle.hume_model.specs.Meaning.{Calls, eval_step, eval_with, call_below, call_of, first_equation, first_arm}
use Rattle.hume_model.specs.inner.Arms.{arm_with}
use Rattle.hume_model.specs.Calls.{calls_step, calls_below, all_true, CallsGoDown, equation_calls}
use Rattle.hume_model.proofs.Evaluation.{call-at}

module _ (bound : ℕ) (ca cb : Calls) (same : (f : ℕ) → f < bound → (args : List Value) → ca f args ≡ cb f args) where
  abbrev Agrees : Expr → Type 0
  Agrees e = calls_below bound e ≡ true → (env : List Value) → eval_with ca e env ≡ eval_with cb e env

  abbrev Part : Type 0
  Part = (e : Expr) × Agrees e

  abbrev of_part : Part → Expr
  of_part p = p.0

  parts_agree : (ps : List Part) → all_true (map (calls_below bound) (map of_part ps)) ≡ true → (env : List Value)
      → in_order (map (eval_with ca) (map of_part ps)) env ≡ in_order (map (eval_with cb) (map of_part ps)) env
  parts_agree [] h env = refl
  parts_agree (p ∷ ps) h env =
      let hs = and_parts _ _ h in
      rw (p.1 hs.0 env, parts_agree ps hs.1 env) refl

  abbrev arm_of : PatC × Part → PatC × Expr
  arm_of arm = (arm.0, of_part arm.1)

  abbrev arm_calls : PatC × Expr → PatC × Bool
  arm_calls arm = (arm.0, calls_below bound arm.1)

  arms_agree : (arms : List (PatC × Part)) → list_all (λ (arm : PatC × Bool). arm.1) (map arm_calls (map arm_of arms)) ≡ true → (v : Value) (env : List Value)
      → first_arm (map (arm_with (eval_with ca)) (map arm_of arms)) v env ≡ first_arm (map (arm_with (eval_with cb)) (map arm_of arms)) v env
  arms_agree [] h v env = refl
  arms_agree (arm ∷ arms) h v env =
      let hs = and_parts _ _ h in
      let go : (λ vs. eval_with ca arm.1.0 (env ++ vs)) ≡ (λ vs. eval_with cb arm.1.0 (env ++ vs)) = λ i vs. arm.1.1 hs.0 (env ++ vs) i in
      rw (arms_agree arms hs.1 v env) (ap (λ m. on_match (matches arm.0 v) m (first_arm (map (arm_with (eval_with cb)) (map arm_of arms)) v env)) go)

  abbrev layer : Expr-F Part → Expr-F Expr
  layer y = map-Expr Part Expr of_part y

  step_agrees : (y : Expr-F Part) → calls_step bound (map-Expr Expr Bool (calls_below bound) (layer y)) ≡ true → (env : List Value)
      → eval_step ca (map-Expr Expr Meaning (eval_with ca) (layer y)) env ≡ eval_step cb (map-Expr Expr Meaning (eval_with cb) (layer y)) env
  step_agrees (Expr-F.Word w) h env = refl
  step_agrees (Expr-F.Var i) h env = refl
  step_agrees (Expr-F.Con c ps) h env = rw (parts_agree ps h env) refl
  step_agrees (Expr-F.Tuple ps) h env = rw (parts_agree ps h env) refl
  step_agrees (Expr-F.Vect ps) h env = rw (parts_agree ps h env) refl
  step_agrees (Expr-F.Prim op ty ps) h env = rw (parts_agree ps h env) refl
  step_agrees (Expr-F.Index m v k) h env =
      let hs = and_parts _ _ h in
      rw (v.1 hs.0 env, k.1 hs.1 env) refl
  step_agrees (Expr-F.Update m v k e) h env =
      let hs = and_parts _ _ h in
      let ks = and_parts _ _ hs.1 in
      rw (v.1 hs.0 env, k.1 ks.0 env, e.1 ks.1 env) refl
  step_agrees (Expr-F.If test a b) h env =
      let hs = and_parts _ _ h in
      let ks = and_parts _ _ hs.1 in
      rw (test.1 hs.0 env, a.1 ks.0 env, b.1 ks.1 env) refl
  step_agrees (Expr-F.Case of forms arms) h env =
      let hs = and_parts _ _ h in
      rw (of.1 hs.0 env) (ap (and_then (eval_with cb of.0 env)) (λ i v. arms_agree arms hs.1 v env i))
  step_agrees (Expr-F.Let a b) h env =
      let hs = and_parts _ _ h in
      rw (a.1 hs.0 env) (ap (and_then (eval_with cb a.0 env)) (λ i v. b.1 hs.1 (env ++ v ∷ []) i))
  step_agrees (Expr-F.Call f ps) h env =
      let hs = and_parts _ _ h in
      rw (parts_agree ps hs.1 env) (ap (with_all (in_order (map (eval_with cb) (map of_part ps)) env)) (λ i vs. same f (ltb-true f bound hs.0) vs i))
  step_agrees (Expr-F.Raise x None) h env = refl
  step_agrees (Expr-F.Raise x (Some p)) h env = rw (p.1 h env) refl

  eval_roll : (call : Calls) (x : Expr-F Expr) (env : List Value)
      → eval_with call (roll-Expr x) env ≡ eval_step call (map-Expr Expr Meaning (eval_with call) x) env
  eval_roll call x env = ap (λ (m : Meaning). m env) (fold-roll-Expr Meaning (eval_step call) x)

  layer_agrees : (y : Expr-F Part) → Agrees (roll-Expr (layer y))
  layer_agrees y h env =
      eval_roll ca (layer y) env ∙ step_agrees y (sym (fold-roll-Expr Bool (calls_step bound) (layer y)) ∙ h) env ∙ sym (eval_roll cb (layer y) env)

  eval_agrees : (e : Expr) → Agrees e
  eval_agrees = ind-Expr Agrees (λ x y is. subst (λ z. Agrees (roll-Expr z)) is (layer_agrees y))

-- the bound doesn't matter to a function below it
calls_same : (core : Core) (a b g : ℕ) (args : List Value) → g < a → g < b → call_below core a g args ≡ call_below core b g args
calls_same core a b g args p q = call-at core a g args p ∙ sym (call-at core b g args q)

equations_same : (core : Core) (f n : ℕ) → f ≤ n → (equations : List EqC) → list_all (equation_calls f) equations ≡ true → (args : List Value)
    → first_equation (eval_with (call_below core f)) equations args ≡ first_equation (eval_with (call_below core n)) equations args
equations_same core f n le [] h args = refl
equations_same core f n le (equation ∷ equations) h args =
    let hs = and_parts _ _ h in
    let go : eval_with (call_below core f) equation.body ≡ eval_with (call_below core n) equation.body =
    λ i env. eval_agrees f (call_below core f) (call_below core n) (λ g lt args. calls_same core f n g args lt (omega arith)) equation.body hs.0 env i in
    rw (equations_same core f n le equations hs.1 args, go) refl

function_same : (core : Core) (f n : ℕ) → f ≤ n → CallsGoDown core → (o : Option FunC) → slice_get core.funs f ≡ o → (args : List Value)
    → call_of (eval_with (call_below core f)) o args ≡ call_of (eval_with (call_below core n)) o args
function_same core f n le down None e args = refl
function_same core f n le down (Some function) e args = equations_same core f n le function.equations (down f function e) args

-- a call gives what the first equation that the arguments match gives in the whole program
pub call_unfolds : (core : Core) → CallsGoDown core → (n f : ℕ) (args : List Value) → f < n
    → call_below core n f args ≡ call_of (eval_with (call_below core n)) (slice_get core.funs f) args
call_unfolds core down n f args lt =
    call-at core n f args lt ∙ function_same core f n (omega arith) down (slice_get core.funs f) refl args
