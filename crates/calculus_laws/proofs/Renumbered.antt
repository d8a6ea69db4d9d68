-- An expression with other numbers for its variables means the same where these stand for the same values.
use Rattle.std.proofs.Common.{◌≡◌, ℕ, zero, suc, ◌+◌, List, [], ◌∷◌, ◌++◌, map, length, Option, Some, None, slice_get, refl, ap, sym, ◌∙◌, subst, arith}
use Rattle.std.proofs.lemmas.List.{length-append}
use Rattle.hume_base.specs.declared.types.Value.{Value}
use Rattle.hume_model.specs.declared.core_tree.PatC.{PatC}
use Rattle.hume_model.specs.declared.core_tree.Expr.{Expr, roll-Expr, map-Expr, fold-roll-Expr, ind-Expr}
use Rattle.hume_model.specs.declared.core_tree.Expr.TheOpen.{Expr-F}
use Rattle.hume_model.specs.Outcomes.{Meaning, in_order, and_then, on_match}
use Rattle.hume_model.specs.Patterns.{matches}
use Rattle.hume_model.specs.Meaning.{Calls, eval_step, eval_with, first_arm}
use Rattle.hume_model.specs.inner.Arms.{arm_with}
use Rattle.calculus_laws.specs.Unfolding.{renumber_layer, renumbered}

-- each variable has its value at its new number, and those that will be bound follow one another
pub record Carries {X : Type 0} (numbers : ℕ → ℕ) (env other : List X) : Type 0 where
  pub same : (i : ℕ) → slice_get other (numbers i) ≡ slice_get env i
  pub beyond : (k : ℕ) → numbers (length env + k) ≡ length other + k

pub get_left : {X : Type 0} (xs ys : List X) (i : ℕ) (x : X) → slice_get xs i ≡ Some x → slice_get (xs ++ ys) i ≡ Some x
get_left [] ys i x found = cc
get_left (y ∷ xs) ys zero x found = found
get_left (y ∷ xs) ys (suc i) x found = get_left xs ys i x found

pub get_right : {X : Type 0} (xs ys : List X) (k : ℕ) → slice_get (xs ++ ys) (length xs + k) ≡ slice_get ys k
get_right [] ys k = (let same : 0 + k ≡ k = omega arith in ap (slice_get ys) same)
get_right (x ∷ xs) ys k = (let same : suc (length xs) + k ≡ suc (length xs + k) = omega arith in ap (slice_get (x ∷ xs ++ ys)) same ∙ get_right xs ys k)

pub past : {X : Type 0} (xs : List X) (i : ℕ) → slice_get xs i ≡ None → (k : ℕ) × (i ≡ length xs + k)
past [] i none = (i, omega arith)
past (x ∷ xs) zero none = cc
past (x ∷ xs) (suc i) none = let rest = past xs i none in (rest.0, (let at = rest.1 in omega (arith, at)))

module _ {X : Type 0} (numbers : ℕ → ℕ) where
  longer_same : (env other more : List X) → Carries numbers env other → (i : ℕ) (o : Option X) → slice_get env i ≡ o
      → slice_get (other ++ more) (numbers i) ≡ slice_get (env ++ more) i
  longer_same env other more carries i (Some v) found =
      get_left other more (numbers i) v (carries.same i ∙ found) ∙ sym (get_left env more i v found)
  longer_same env other more carries i None none =
      let at = past env i none in
      ap (λ n. slice_get (other ++ more) (numbers n)) at.1 ∙ ap (slice_get (other ++ more)) (carries.beyond at.0) ∙ get_right other more at.0
      ∙ sym (get_right env more at.0) ∙ ap (slice_get (env ++ more)) (sym at.1)

  -- so it is with further variables
  pub longer : (env other more : List X) → Carries numbers env other → Carries numbers (env ++ more) (other ++ more)
  longer env other more carries = record {
    same = λ i. longer_same env other more carries i (slice_get env i) refl;
    beyond = λ k.
        let first = length-append env more in
        let second = length-append other more in
        let left : length (env ++ more) + k ≡ length env + (length more + k) = omega (arith, first) in
        let right : length other + (length more + k) ≡ length (other ++ more) + k = omega (arith, second) in
        ap numbers left ∙ carries.beyond (length more + k) ∙ right;
  }

module _ (call : Calls) (numbers : ℕ → ℕ) where
  abbrev Means : Expr → Type 0
  Means e = (env other : List Value) → Carries numbers env other → eval_with call (renumbered numbers e) other ≡ eval_with call e env

  abbrev Part : Type 0
  Part = (e : Expr) × Means e

  abbrev of_part : Part → Expr
  of_part p = p.0

  parts_mean : (ps : List Part) (env other : List Value) → Carries numbers env other
      → in_order (map (eval_with call) (map (renumbered numbers) (map of_part ps))) other ≡ in_order (map (eval_with call) (map of_part ps)) env
  parts_mean [] env other carries = refl
  parts_mean (p ∷ ps) env other carries = rw (p.1 env other carries, parts_mean ps env other carries) refl

  abbrev arm_of : PatC × Part → PatC × Expr
  arm_of arm = (arm.0, of_part arm.1)

  abbrev arm_renumbered : PatC × Expr → PatC × Expr
  arm_renumbered arm = (arm.0, renumbered numbers arm.1)

  arms_mean : (arms : List (PatC × Part)) (v : Value) (env other : List Value) → Carries numbers env other
      → first_arm (map (arm_with (eval_with call)) (map arm_renumbered (map arm_of arms))) v other ≡ first_arm (map (arm_with (eval_with call)) (map arm_of arms)) v env
  arms_mean [] v env other carries = refl
  arms_mean (arm ∷ arms) v env other carries =
      λ i. on_match (matches arm.0 v) (λ vs. arm.1.1 (env ++ vs) (other ++ vs) (longer numbers env other vs carries) i) (arms_mean arms v env other carries i)

  abbrev layer : Expr-F Part → Expr-F Expr
  layer y = map-Expr Part Expr of_part y

  abbrev new_layer : Expr-F Part → Expr-F Expr
  new_layer y = renumber_layer numbers (map-Expr Expr Expr (renumbered numbers) (layer y))

  step_means : (y : Expr-F Part) (env other : List Value) → Carries numbers env other
      → eval_step call (map-Expr Expr Meaning (eval_with call) (new_layer y)) other ≡ eval_step call (map-Expr Expr Meaning (eval_with call) (layer y)) env
  step_means (Expr-F.Word w) env other carries = refl
  step_means (Expr-F.Var i) env other carries = rw (carries.same i) refl
  step_means (Expr-F.Con c ps) env other carries = rw (parts_mean ps env other carries) refl
  step_means (Expr-F.Tuple ps) env other carries = rw (parts_mean ps env other carries) refl
  step_means (Expr-F.Vect ps) env other carries = rw (parts_mean ps env other carries) refl
  step_means (Expr-F.Prim op ty ps) env other carries = rw (parts_mean ps env other carries) refl
  step_means (Expr-F.Index m v k) env other carries = rw (v.1 env other carries, k.1 env other carries) refl
  step_means (Expr-F.Update m v k e) env other carries = rw (v.1 env other carries, k.1 env other carries, e.1 env other carries) refl
  step_means (Expr-F.If test a b) env other carries = rw (test.1 env other carries, a.1 env other carries, b.1 env other carries) refl
  step_means (Expr-F.Case of forms arms) env other carries =
      rw (of.1 env other carries) (ap (and_then (eval_with call of.0 env)) (λ i v. arms_mean arms v env other carries i))
  step_means (Expr-F.Let a b) env other carries =
      rw (a.1 env other carries)
      (ap (and_then (eval_with call a.0 env)) (λ i v. b.1 (env ++ v ∷ []) (other ++ v ∷ []) (longer numbers env other (v ∷ []) carries) i))
  step_means (Expr-F.Call f ps) env other carries = rw (parts_mean ps env other carries) refl
  step_means (Expr-F.Raise x None) env other carries = refl
  step_means (Expr-F.Raise x (Some p)) env other carries = rw (p.1 env other carries) refl

  eval_roll : (x : Expr-F Expr) (env : List Value) → eval_with call (roll-Expr x) env ≡ eval_step call (map-Expr Expr Meaning (eval_with call) x) env
  eval_roll x env = ap (λ (m : Meaning). m env) (fold-roll-Expr Meaning (eval_step call) x)

  layer_means : (y : Expr-F Part) → Means (roll-Expr (layer y))
  layer_means y env other carries =
      ap (λ e. eval_with call e other) (fold-roll-Expr Expr (λ x. roll-Expr (renumber_layer numbers x)) (layer y))
      ∙ eval_roll (new_layer y) other ∙ step_means y env other carries ∙ sym (eval_roll (layer y) env)

  pub renumbered_means : (e : Expr) → Means e
  renumbered_means = ind-Expr Means (λ x y is. subst (λ z. Means (roll-Expr z)) is (layer_means y))
