-- Lists from their ends.
use Rattle.std.proofs.Common.{◌≡◌, ℕ, suc, List, [], ◌∷◌, ◌++◌, length, take, drop, reverse, refl, ap, sym, ◌∙◌, add-one}
use Rattle.std.proofs.lemmas.List.{reverse-append, length-reverse, reverse-reverse, append_assoc}
use Rattle.std.proofs.Math.Seq.{take-append_seam, drop-append_seam, drop-append-add}
use Rattle.check_cores.specs.Stacks.{lifted}

module _ {A : Type 0} where
  pub last_taken : (a b : List A) (count : ℕ) → length b ≡ count → b ≡ reverse (take count (reverse (a ++ b)))
  last_taken a b count h =
      sym (ap reverse (ap (take count) (reverse-append a b) ∙ ap (λ n. take n (reverse b ++ reverse a)) (sym h ∙ sym (length-reverse b)) ∙ take-append_seam (reverse b) (reverse a)) ∙ reverse-reverse b)

  pub last_left : (a b : List A) (count : ℕ) → length b ≡ count → reverse a ≡ drop count (reverse (a ++ b))
  last_left a b count h =
      sym (ap (drop count) (reverse-append a b) ∙ ap (λ n. drop n (reverse b ++ reverse a)) (sym h ∙ sym (length-reverse b)) ∙ drop-append_seam (reverse b) (reverse a))

  -- an item of which others are behind it goes to the end
  pub item_lifted : (before others : List A) (item : A) (count : ℕ) → length others ≡ count
      → reverse ((before ++ others) ++ item ∷ []) ≡ lifted count (reverse (before ++ item ∷ others))
  item_lifted before others item count h =
      reverse-append (before ++ others) (item ∷ []) ∙ ap (λ l. item ∷ l) (reverse-append before others)
      ∙ sym (ap (lifted count) (reverse-append before (item ∷ others) ∙ ap (λ l. l ++ reverse before) (reverse-append (item ∷ []) others) ∙ append_assoc (reverse others) (item ∷ []) (reverse before))
      ∙ at_seam (reverse others) (item ∷ reverse before) count (length-reverse others ∙ h))
    where
      at_seam : (xs ys : List A) (n : ℕ) → length xs ≡ n → lifted n (xs ++ ys) ≡ take 1 ys ++ (xs ++ drop 1 ys)
      at_seam xs ys n e = ap (λ m. lifted m (xs ++ ys)) (sym e)
          ∙ (λ i. take 1 (drop-append_seam xs ys i) ++ (take-append_seam xs ys i ++ one_more xs ys i))
        where
          one_more : (xs ys : List A) → drop (suc (length xs)) (xs ++ ys) ≡ drop 1 ys
          one_more xs ys = ap (λ k. drop k (xs ++ ys)) (sym (add-one (length xs))) ∙ drop-append-add xs ys 1
