-- What the first wire that passes a test tells.
use Rattle.std.proofs.Common.{◌≡◌, ℕ, zero, suc, ◌<◌, ◌≤◌, ◌==◌, not, Bool, true, false, if◌then◌else◌, List, [], ◌∷◌, ◌++◌, length, Option, Some, None, slice_get, refl, ap, sym, ◌∙◌, subst, arith, inl, inr, ◌↔◌, IsTrue}
use Rattle.std.proofs.lemmas.Bool.{cases_eq, eq-eqb, ne_eqb}
use Rattle.std.specs.Option.{option_map, is_some}
use Rattle.hume_base.proofs.Tables.{chosen}
use Rattle.hume_model.specs.declared.core_tree.WireC.{WireC}
use Rattle.hume_model.specs.WireRules.{NoWire, ComesAfter}
use Rattle.wiring_check.specs.inner.Slots.{first_wire}

-- the wire of the number is the first that passes
pub record IsFirstWire (test : WireC → Bool) (wires : List WireC) (w : ℕ) : Type 0 where
  pub wire : WireC
  pub there : slice_get wires w ≡ Some wire
  pub passes : test wire ≡ true
  pub first : (x : ℕ) (other : WireC) → slice_get wires x ≡ Some other → test other ≡ true → w ≤ x

shifted : (o : Option ℕ) → option_map suc o ≡ None → o ≡ None
shifted None e = refl
shifted (Some w) e = cc

before_suc : (o : Option ℕ) (w : ℕ) → option_map suc o ≡ Some w → (v : ℕ) × (o ≡ Some v) × (suc v ≡ w)
before_suc None w e = cc
before_suc (Some v) w e = (v, refl, cc)

-- the first wire, by whether that at the front passes
same_choice : (b : Bool) (o p : Option ℕ) → (b ≡ false → o ≡ p) → (if b then Some 0 else option_map suc o) ≡ (if b then Some 0 else option_map suc p)
same_choice true o p go = refl
same_choice false o p go = ap (option_map suc) (go refl)

still_there : (b : Bool) (o : Option ℕ) → b ≡ false → is_some (if b then Some 0 else option_map suc o) ≡ true → is_some o ≡ true
still_there true o e h = cc
still_there false None e h = h
still_there false (Some v) e h = refl

one_later : (b : Bool) (o p : Option ℕ) (k : ℕ) → is_some (if b then Some 0 else option_map suc o) ≡ false → (is_some o ≡ false → p ≡ Some k)
    → (if b then Some 0 else option_map suc p) ≡ Some (suc k)
one_later true o p k h go = cc
one_later false None p k h go = ap (option_map suc) (go refl)
one_later false (Some v) p k h go = cc

pub is_none : (o : Option ℕ) → is_some o ≡ false → o ≡ None
is_none None h = refl
is_none (Some w) h = cc

module _ (test : WireC → Bool) where
  not_front : (x : WireC) (xs : List WireC) (w : ℕ) (wire : WireC) → slice_get (x ∷ xs) w ≡ Some wire → test wire ≡ true → test x ≡ false → NoWire test xs → ⊥
  not_front x xs zero wire at is fails rest = let same : x ≡ wire = cc in let h : false ≡ true = sym fails ∙ ap test same ∙ is in cc
  not_front x xs (suc w) wire at is fails rest = rest w wire at is

  pub none_passes : (wires : List WireC) → first_wire test wires ≡ None → NoWire test wires
  none_passes [] e = λ w wire at is. cc
  none_passes (x ∷ xs) e = elim (chosen (test x) (Some 0) (option_map suc (first_wire test xs)) None e) [
    | inl here ↦ (let h = here.1 in cc)
    | inr later ↦ (λ w wire at is. not_front x xs w wire at is later.0 (none_passes xs (shifted _ later.1)))
  ]

  is_later : (x : WireC) (xs : List WireC) (v : ℕ) → test x ≡ false → IsFirstWire test xs v → (k : ℕ) (other : WireC) → slice_get (x ∷ xs) k ≡ Some other → test other ≡ true → suc v ≤ k
  is_later x xs v fails is zero other at passes = let same : x ≡ other = cc in let h : false ≡ true = sym fails ∙ ap test same ∙ passes in cc
  is_later x xs v fails is (suc k) other at passes = let h : v ≤ k = is.first k other at passes in omega arith

  pub first_passes : (wires : List WireC) (w : ℕ) → first_wire test wires ≡ Some w → IsFirstWire test wires w
  first_passes [] w e = cc
  first_passes (x ∷ xs) w e = elim (chosen (test x) (Some 0) (option_map suc (first_wire test xs)) (Some w) e) [
    | inl here ↦ (let same : 0 ≡ w = (let h = here.1 in cc) in
        subst (λ k. IsFirstWire test (x ∷ xs) k) same (record { wire = x; there = refl; passes = here.0; first = λ k other at is. omega arith }))
    | inr later ↦ (let v = before_suc (first_wire test xs) w later.1 in
        let is : IsFirstWire test xs v.0 = first_passes xs v.0 v.1 in
        subst (λ k. IsFirstWire test (x ∷ xs) k) v.2 (record { wire = is.wire; there = is.there; passes = is.passes; first = is_later x xs v.0 later.0 is }))
  ]

  none_of : (wires : List WireC) (o : Option ℕ) → first_wire test wires ≡ o → NoWire test wires → o ≡ None
  none_of wires None found none = refl
  none_of wires (Some w) found none = let is = first_passes wires w found in absurd (none w is.wire is.there is.passes)

  pub none_first : (wires : List WireC) → NoWire test wires → first_wire test wires ≡ None
  none_first wires none = none_of wires (first_wire test wires) refl none

  -- one more wire
  pub first_kept : (xs : List WireC) (x : WireC) → is_some (first_wire test xs) ≡ true → first_wire test (xs ++ x ∷ []) ≡ first_wire test xs
  first_kept [] x is = cc
  first_kept (y ∷ ys) x is = same_choice (test y) _ _ (λ e. first_kept ys x (still_there (test y) _ e is))

  pub first_added : (xs : List WireC) (x : WireC) → is_some (first_wire test xs) ≡ false → test x ≡ true → first_wire test (xs ++ x ∷ []) ≡ Some (length xs)
  first_added [] x none is = rw is refl
  first_added (y ∷ ys) x none is = one_later (test y) (first_wire test ys) _ _ none (λ n. first_added ys x n is)

  pub first_same : (xs : List WireC) (x : WireC) → test x ≡ false → first_wire test (xs ++ x ∷ []) ≡ first_wire test xs
  first_same [] x fails = rw fails refl
  first_same (y ∷ ys) x fails = same_choice (test y) _ _ (λ e. first_same ys x fails)

  -- whether an earlier wire passes the test that the wire of the number passes
  pub after_none : (wires : List WireC) (w : ℕ) → first_wire test wires ≡ None → IsTrue false ↔ ComesAfter test wires w
  after_none wires w none = (λ h. cc, λ a. absurd (none_passes wires none a.x a.earlier a.there a.passes))

  is_after : (wires : List WireC) (w v : ℕ) (wire : WireC) → first_wire test wires ≡ Some v → slice_get wires w ≡ Some wire → test wire ≡ true → (v ≡ w → ⊥) → ComesAfter test wires w
  is_after wires w v wire found at passes other =
      let is = first_passes wires v found in
      let low : v ≤ w = is.first w wire at passes in
      record { x = v; earlier = is.wire; there = is.there; before = omega (arith, other); passes = is.passes }

  not_after : (wires : List WireC) (w v : ℕ) → first_wire test wires ≡ Some v → v ≡ w → ComesAfter test wires w → ⊥
  not_after wires w v found same a =
      let low : v ≤ a.x = (first_passes wires v found).first a.x a.earlier a.there a.passes in
      let before : a.x < w = a.before in
      omega arith

  pub after_some : (wires : List WireC) (w v : ℕ) (wire : WireC) → first_wire test wires ≡ Some v → slice_get wires w ≡ Some wire → test wire ≡ true
      → IsTrue (not (v == w)) ↔ ComesAfter test wires w
  after_some wires w v wire found at passes = elim (cases_eq v w) [
    | inl same ↦ rw (eq-eqb v w same) ((λ h. (let g : false ≡ true = h in cc)), (λ a. absurd (not_after wires w v found same a)))
    | inr other ↦ rw (ne_eqb v w other) ((λ h. is_after wires w v wire found at passes other), (λ a. refl))
  ]
