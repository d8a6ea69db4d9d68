-- Places of ports once one of them is taken out.
use Rattle.std.proofs.Common.{◌≡◌, ℕ, zero, suc, ◌-◌, nat_lt, Bool, true, false, cond, List, [], ◌∷◌, refl, ap, sym, ◌∙◌, arith, inl, inr, Option, None, Some}
use Rattle.std.specs.List.{remove}
use Rattle.std.specs.Option.{option_map}
use Rattle.std.specs.Str.{bytes_eq}
use Rattle.std.proofs.lemmas.Bool.{true≢false, cases_Bool, ltb-true, lt-ltb}
use Rattle.hume_ports.specs.Ports.{place_of}
use Rattle.hume_console.specs.Hands.{place_without}

-- where the place is one more than another
one_more : (o : Option ℕ) (p : ℕ) → option_map suc o ≡ Some p → (q : ℕ) × (o ≡ Some q) × (p ≡ suc q)
one_more None p e = cc
one_more (Some q) p e = (q, refl, (let same : suc q ≡ p = cc in sym same))

-- the same numbers, one more each
less_more : (gone at : ℕ) → nat_lt (suc gone) (suc at) ≡ nat_lt gone at
less_more gone at = elim (cases_Bool (nat_lt gone at)) [
  | inl less ↦ lt-ltb (suc gone) (suc at) (omega (arith, ltb-true gone at less)) ∙ sym less
  | inr more ↦ elim (cases_Bool (nat_lt (suc gone) (suc at))) [
    | inl less ↦
        let below : nat_lt gone at ≡ true = lt-ltb gone at (omega (arith, ltb-true (suc gone) (suc at) less)) in
        absurd (true≢false (sym below ∙ more))
    | inr same ↦ same ∙ sym more
  ]
]

-- behind a further port each place is one more
pub shifted : (gone at : ℕ) → place_without (suc gone) (suc at) ≡ suc (place_without gone at)
shifted gone at = ap (λ b. cond b (suc at - 1) (suc at)) (less_more gone at) ∙ by (nat_lt gone at) refl
  where
    by : (b : Bool) → nat_lt gone at ≡ b → cond b (suc at - 1) (suc at) ≡ suc (cond b (at - 1) at)
    by true less = omega (arith, ltb-true gone at less)
    by false more = refl

-- the first port stays the first
pub first_stays : (b : Bool) → 0 ≡ cond b (0 - 1) 0
first_stays true = refl
first_stays false = refl

-- A name that doesn't mean the port at a place means the same port once that one is taken out.
pub place_removed : (name : List ℕ) (names : List (List ℕ)) (gone at : ℕ) → place_of name names ≡ Some at → (at ≡ gone → ⊥)
    → place_of name (remove names gone) ≡ Some (place_without gone at)
place_removed name [] gone at e other = cc
place_removed name (first ∷ names) zero at e other = by (bytes_eq first name) refl e
  where
    moved : (q : ℕ) → at ≡ suc q → q ≡ place_without 0 at
    moved q same =
        let less : nat_lt 0 (suc q) ≡ true = lt-ltb 0 (suc q) (omega arith) in
        let numbers : q ≡ suc q - 1 = omega arith in
        numbers ∙ sym (ap (λ b. cond b (suc q - 1) (suc q)) less) ∙ ap (place_without 0) (sym same)

    by : (b : Bool) → bytes_eq first name ≡ b → cond b (Some 0) (option_map suc (place_of name names)) ≡ Some at
        → place_of name names ≡ Some (place_without 0 at)
    by true is found = absurd (other (let same : 0 ≡ at = cc in sym same))
    by false isnt found = let before = one_more (place_of name names) at found in before.1 ∙ ap (λ n. Some n) (moved before.0 before.2)
place_removed name (first ∷ names) (suc gone) at e other = by (bytes_eq first name) (place_removed name names gone) e
  where
    by : (b : Bool) → ((q : ℕ) → place_of name names ≡ Some q → (q ≡ gone → ⊥) → place_of name (remove names gone) ≡ Some (place_without gone q))
        → cond b (Some 0) (option_map suc (place_of name names)) ≡ Some at
        → cond b (Some 0) (option_map suc (place_of name (remove names gone))) ≡ Some (place_without (suc gone) at)
    by true removed found =
        let same : 0 ≡ at = cc in
        ap (λ n. Some n) (first_stays (nat_lt (suc gone) 0)) ∙ ap (λ n. Some (place_without (suc gone) n)) same
    by false removed found =
        let before = one_more (place_of name names) at found in
        let rest = removed before.0 before.1 (λ same. other (before.2 ∙ ap suc same)) in
        ap (option_map suc) rest ∙ ap (λ n. Some n) (sym (shifted gone before.0) ∙ ap (place_without (suc gone)) (sym before.2))
