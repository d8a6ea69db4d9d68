-- The last element, and all numbers below a bound.
use Rattle.std.proofs.Common.{◌≡◌, ℕ, zero, suc, ◌<◌, ◌&&◌, Bool, true, false, List, [], ◌∷◌, refl, ap, sym, ◌∙◌, arith, inl, inr}
use Rattle.std.proofs.lemmas.Bool.{cases_eq}
use Rattle.std.proofs.lemmas.Grind.{common_steps}
use Rattle.hume_model.specs.Completeness.{last_passes, all_below}

-- whether the last element passes, and the answer where there is none
abbrev pub last_or : {X : Type 0} → (X → Bool) → Bool → List X → Bool
last_or test answer [] = answer
last_or test answer (x ∷ xs) = last_or test (test x) xs

last_more : {X : Type 0} (test : X → Bool) (answer : Bool) (x : X) (xs : List X) → last_or test answer (x ∷ xs) ≡ last_passes test (x ∷ xs)
last_more test answer x [] = refl
last_more test answer x (y ∷ xs) = last_more test (test x) y xs

pub last_is : {X : Type 0} (test : X → Bool) (xs : List X) → last_or test false xs ≡ last_passes test xs
last_is test [] = refl
last_is test (x ∷ xs) = last_more test false x xs

and_false : (b : Bool) → (b && false) ≡ false
and_false true = refl
and_false false = refl

pub below_fails : (bound : ℕ) (test : ℕ → Bool) (k : ℕ) → k < bound → test k ≡ false → all_below bound test ≡ false
below_fails zero test k lt fails = absurd (omega arith)
below_fails (suc bound) test k lt fails = elim (cases_eq k bound) [
  | inl same ↦ rw (ap test (sym same) ∙ fails) (and_false (all_below bound test))
  | inr other ↦ rw (below_fails bound test k (omega arith) fails) refl
]

pub ruleset last_steps = (common_steps, last_is)
