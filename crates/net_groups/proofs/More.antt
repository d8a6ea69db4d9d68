-- One number more.
use Rattle.std.proofs.Common.{◌≡◌, ◌+◌, ◌<◌, ℕ, zero, suc, List, [], ◌∷◌, ◌++◌, length, refl, ap, sym, ◌∙◌, subst, inl, inr, arith}
use Rattle.std.specs.Prelude.{slice_index}
use Rattle.std.proofs.lemmas.Bool.{cases_eq}
use Rattle.net_groups.specs.inner.Below.{AreBelow}

last_index : (xs : List ℕ) (x : ℕ) → slice_index (xs ++ x ∷ []) (length xs) ≡ x
last_index [] x = refl
last_index (y ∷ ys) x = last_index ys x

front_index : (xs : List ℕ) (x k : ℕ) → k < length xs → slice_index (xs ++ x ∷ []) k ≡ slice_index xs k
front_index [] x k less = absurd (omega (arith, less))
front_index (y ∷ ys) x zero less = refl
front_index (y ∷ ys) x (suc k) less = front_index ys x k (omega (arith, less))

pub one_below : (limit count : ℕ) (xs : List ℕ) (x : ℕ) → length xs ≡ count → AreBelow limit count xs → x < limit → AreBelow limit (count + 1) (xs ++ x ∷ [])
one_below limit count xs x long below low k less = elim (cases_eq k (length xs)) [
  | inl same ↦ subst (λ y. y < limit) (sym (ap (slice_index (xs ++ x ∷ [])) same ∙ last_index xs x)) low
  | inr other ↦ subst (λ y. y < limit) (sym (front_index xs x k (omega (arith, less, long, other)))) (below k (omega (arith, less, long, other)))
]
