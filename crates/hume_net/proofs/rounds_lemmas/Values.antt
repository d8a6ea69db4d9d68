-- The first values of a list, and those that stay.
use Rattle.std.proofs.Common.{◌≡◌, ℕ, ◌-◌, ◌≤◌, List, [], ◌∷◌, ◌++◌, take, drop, length, refl, ap, ◌∙◌, inl, inr, ◌⊎◌, arith, length-append}
use Rattle.std.proofs.Math.Seq.{take-append_seam}
use Rattle.std.proofs.lemmas.List.{length-drop, length-take-le}
use Rattle.std.proofs.lemmas.Bool.{cases_lt}

-- those that are gone are the first, as many as are fewer
pub first_gone : {X : Type 0} (gone after before : List X) → before ≡ gone ++ after → take (length before - length after) before ≡ gone
first_gone gone after before all =
    let count : length before - length after ≡ length gone = (let lengths = ap length all ∙ length-append gone after in omega (arith, lengths)) in
    ap (λ n. take n before) count ∙ ap (take (length gone)) all ∙ take-append_seam gone after

no_items : {X : Type 0} (xs : List X) → length xs ≡ 0 → xs ≡ []
no_items [] none = refl
no_items (x ∷ xs) none = cc

-- so many are there, or none stand after so many
pub none_or_enough : {X : Type 0} (count : ℕ) (xs : List X) → (drop count xs ≡ []) ⊎ (count ≤ length (take count xs))
none_or_enough count xs = elim (cases_lt (length xs) count) [
  | inl less ↦ inl (no_items (drop count xs) (let left = length-drop count xs in omega (arith, left, less)))
  | inr enough ↦ inr (let all = length-take-le count xs enough in omega (arith, all))
]
