-- Of n + 1 numbers below n two are the same.
use Rattle.std.proofs.Common.{◌≡◌, ℕ, zero, suc, ◌-◌, ◌<◌, ◌≤◌, ◌⊎◌, inl, inr, List, length, get_or, Contains, sym, ap, ◌∙◌, nat_lt, if◌then◌else◌, arith}
use Rattle.std.proofs.lemmas.Bool.{cases_eq}
use Rattle.std.proofs.lemmas.Bool.Decides.{nat_tests}
use Rattle.std.proofs.lemmas.List.{get_or_default}

pub found : (s : ℕ → ℕ) (x k : ℕ) → ((i : ℕ) × (i < k) × (s i ≡ x)) ⊎ ((i : ℕ) → i < k → s i ≡ x → ⊥)
found s x zero = inr (λ i lt e. omega arith)
found s x (suc k) = elim (found s x k) [
  | inl f ↦ let lt = f.1 in inl (f.0, omega arith, f.2)
  | inr none ↦ elim (cases_eq (s k) x) [
    | inl e ↦ inl (k, omega arith, e)
    | inr off ↦ inr (λ i lt e. elim (cases_eq i k) [ inl same ↦ off (ap s (sym same) ∙ e) | inr other ↦ none i (omega arith) e ])
  ]
]

-- a number is in a list or it is not
pub among : (xs : List ℕ) (x : ℕ) → Contains xs x ⊎ (Contains xs x → ⊥)
among xs x = elim (found (λ i. get_or xs i 0) x (length xs)) [
  | inl f ↦ inl (f.0, f.1, get_or_default xs f.0 x 0 f.1 ∙ f.2)
  | inr none ↦ inr (λ p. none p.0 p.1 (get_or_default xs p.0 0 x p.1 ∙ p.2))
]

abbrev below_top : ℕ → ℕ → ℕ
below_top x y = if nat_lt x y then y - 1 else y

same_below : (x y z : ℕ) → (y ≡ x → ⊥) → (z ≡ x → ⊥) → below_top x y ≡ below_top x z → y ≡ z
same_below x y z p q e = grind (arith, nat_tests)

fits_below : (x y n : ℕ) → (y ≡ x → ⊥) → x < suc n → y < suc n → below_top x y < n
fits_below x y n p h k = grind (arith, nat_tests)

pub two_same : (n : ℕ) (s : ℕ → ℕ) → ((k : ℕ) → k ≤ n → s k < n) → (i : ℕ) × (j : ℕ) × (i < j) × (j ≤ n) × (s i ≡ s j)
two_same zero s h = absurd (let e = h 0 (omega arith) in omega arith)
two_same (suc n) s h = elim (found s (s (suc n)) (suc n)) [
  | inl f ↦ (f.0, suc n, f.1, omega arith, f.2)
  | inr none ↦
      let top = h (suc n) (omega arith) in
      let r = two_same n (λ k. below_top (s (suc n)) (s k)) (λ k le. fits_below (s (suc n)) (s k) n (none k (omega arith)) top (h k (omega arith))) in
      let lt = r.2 in let le = r.3 in
      (r.0, r.1, lt, omega arith, same_below (s (suc n)) (s r.0) (s r.1) (none r.0 (omega arith)) (none r.1 (omega arith)) r.4)
]
