-- Places that are counted.
use Rattle.std.proofs.Common.{◌≡◌, ℕ, zero, suc, ◌+◌, List, [], ◌∷◌, ◌++◌, refl, ap, sym, ◌∙◌, append_assoc, arith}
use Rattle.box_code.specs.Represents.{counted}

counted_last : (start count next last : ℕ) → next ≡ count + 1 → last ≡ start + count → counted start next ≡ counted start count ++ last ∷ []
counted_last start count zero last is at = absurd (omega (arith, is))
counted_last start zero (suc next) last is at =
    let n : next ≡ 0 = omega (arith, is) in
    let l : start ≡ last = omega (arith, at) in
    ap (λ k. start ∷ counted (start + 1) k) n ∙ ap (λ k. k ∷ []) l
counted_last start (suc count) (suc next) last is at = ap (λ k. start ∷ k) (counted_last (start + 1) count next last (omega (arith, is)) (omega (arith, at)))

pub places_more : (places inner all : List ℕ) (start count last : ℕ) → inner ≡ places ++ counted start count → last ≡ start + count → all ≡ inner ++ last ∷ []
    → all ≡ places ++ counted start (count + 1)
places_more places inner all start count last so at is =
    is ∙ ap (λ k. k ++ last ∷ []) so ∙ append_assoc places (counted start count) (last ∷ [])
    ∙ ap (λ k. places ++ k) (sym (counted_last start count (count + 1) last refl at))
