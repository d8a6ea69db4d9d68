-- Types that are kept, in their order.
use Rattle.std.proofs.Common.{◌≡◌, ℕ, List, [], ◌∷◌, ◌++◌, length, take, drop, reverse, ap, sym, ◌∙◌}
use Rattle.std.proofs.lemmas.Grind.{common_steps}
use Rattle.std.proofs.lemmas.List.{reverse-append, length-reverse, reverse-reverse, append_assoc}
use Rattle.std.proofs.Math.Seq.{take-append_seam, drop-append_seam}

module _ {A : Type 0} where
  pub taken_back : (xs ys : List A) (count : ℕ) → length xs ≡ count → reverse (take count (reverse xs ++ ys)) ≡ xs
  taken_back xs ys count h =
      ap (λ n. reverse (take n (reverse xs ++ ys))) (sym h ∙ sym (length-reverse xs))
      ∙ ap reverse (take-append_seam (reverse xs) ys) ∙ reverse-reverse xs

  pub left_below : (xs ys : List A) (count : ℕ) → length xs ≡ count → drop count (reverse xs ++ ys) ≡ ys
  left_below xs ys count h = ap (λ n. drop n (reverse xs ++ ys)) (sym h ∙ sym (length-reverse xs)) ∙ drop-append_seam (reverse xs) ys

  pub reverse_more : (x : A) (xs ys : List A) → reverse (x ∷ xs) ++ ys ≡ reverse xs ++ (x ∷ ys)
  reverse_more x xs ys = ap (λ l. l ++ ys) (reverse-append (x ∷ []) xs) ∙ append_assoc (reverse xs) (x ∷ []) ys

pub ruleset keeping_steps = (common_steps, taken_back, left_below, append_assoc, reverse_more)
