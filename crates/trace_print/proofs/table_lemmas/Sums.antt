-- Sums over the first nodes of a list.
use Rattle.std.proofs.Common.{◌≡◌, ℕ, zero, suc, ◌+◌, ◌≤◌, List, [], ◌∷◌, map, take, length, Some, slice_get, ap, arith}
use Rattle.std.specs.List.{sum}
use Rattle.std.proofs.lemmas.List.Sums.{sum_by-cons}
use Rattle.std.proofs.lemmas.List.{take_all}

module _ {A : Type 0} (f : A → ℕ) where
  sum_more : (n : ℕ) (ns : List ℕ) → sum (n ∷ ns) ≡ n + sum ns
  sum_more n ns = sum_by-cons (λ x. x) n ns

  -- one more of them
  pub sum_step : (xs : List A) (n : ℕ) (x : A) → slice_get xs n ≡ Some x → sum (map f (take (suc n) xs)) ≡ sum (map f (take n xs)) + f x
  sum_step [] n x there = cc
  sum_step (y ∷ ys) zero x there =
      let same : y ≡ x = cc in
      let one : sum (map f (take (suc zero) (y ∷ ys))) ≡ f y + sum [] = sum_more (f y) [] in
      alone (sum (map f (take (suc zero) (y ∷ ys)))) (f y) (f x) one (ap f same)
    where
      alone : (all head last : ℕ) → all ≡ head + sum [] → head ≡ last → all ≡ sum [] + last
      alone all head last p q = omega (arith, p, q)
  sum_step (y ∷ ys) (suc n) x there =
      let one : sum (map f (take (suc (suc n)) (y ∷ ys))) ≡ f y + sum (map f (take (suc n) ys)) = sum_more (f y) (map f (take (suc n) ys)) in
      let other : sum (map f (take (suc n) (y ∷ ys))) ≡ f y + sum (map f (take n ys)) = sum_more (f y) (map f (take n ys)) in
      let later = sum_step ys n x there in
      together _ _ _ _ _ (f y) one other later
    where
      together : (all more first some last head : ℕ) → all ≡ head + more → first ≡ head + some → more ≡ some + last → all ≡ first + last
      together all more first some last head p q r = omega (arith, p, q, r)

  -- all of them
  pub sum_all : (xs : List A) (n : ℕ) → length xs ≤ n → sum (map f (take n xs)) ≡ sum (map f xs)
  sum_all xs n past = ap (λ ys. sum (map f ys)) (take_all n xs past)

-- a sum of smaller parts is no greater
pub sum_below : {A : Type 0} (f g : A → ℕ) → ((x : A) → f x ≤ g x) → (xs : List A) → sum (map f xs) ≤ sum (map g xs)
sum_below f g less [] = omega arith
sum_below f g less (x ∷ xs) =
    let one = sum_more f (f x) (map f xs) in
    let other = sum_more g (g x) (map g xs) in
    let here = less x in
    let later = sum_below f g less xs in
    omega (arith, one, other, here, later)
