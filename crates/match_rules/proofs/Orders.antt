-- Orders of rules in the front of an array.
use Rattle.std.proofs.Common.{◌≡◌, ℕ, zero, suc, ◌+◌, ◌<◌, ◌≤◌, ◌==◌, not, Bool, List, [], ◌∷◌, ◌++◌, length, take, drop, get_or, slice_get, slice_set, Some, cond, refl, ap, sym, ◌∙◌, subst, arith}
use Rattle.std.specs.List.{filter, find, range_with_len}
use Rattle.std.proofs.lemmas.List.{length-take-le, take_more_set}
use Rattle.std.proofs.lemmas.List.Filters.{length-filter_both}
use Rattle.std.proofs.lemmas.List.Sums.{length-filter}
use Rattle.hume_net.specs.HalfSteps.{moved_last}
use Rattle.hume_net.specs.StatePlaces.{IsOrder}
use Rattle.hume_net.proofs.Orders.{moved_order, first_order}

pub range_more : (a n : ℕ) → range_with_len a (n + 1) ≡ range_with_len a n ++ (a + n) ∷ []
range_more a zero = ap (λ k. k ∷ []) (let e : a ≡ a + 0 = omega arith in e)
range_more a (suc n) =
    let one : suc n + 1 ≡ suc (n + 1) = omega arith in
    let last : a + 1 + n ≡ a + suc n = omega arith in
    ap (range_with_len a) one ∙ ap (λ ns. a ∷ ns) (range_more (a + 1) n) ∙ ap (λ k. a ∷ (range_with_len (a + 1) n ++ k ∷ [])) last

-- the next number
pub next_number : (written : List ℕ) (i : ℕ) → i < length written → take i written ≡ range_with_len 0 i
    → take (i + 1) (slice_set written i i) ≡ range_with_len 0 (i + 1)
next_number written i less done =
    take_more_set written i i less ∙ ap (λ ns. ns ++ i ∷ []) done ∙ ap (λ k. range_with_len 0 i ++ k ∷ []) (let e : i ≡ 0 + i = omega arith in e)
    ∙ sym (range_more 0 i)

pub first_is_order : (count : ℕ) (numbers : List ℕ) → numbers ≡ range_with_len 0 count → IsOrder count numbers
first_is_order count numbers is = subst (IsOrder count) (sym is) (first_order count)

module _ (rules new : List ℕ) (count rule kept : ℕ) (is : IsOrder count (take count rules)) (within : count ≤ length rules) (below : rule < count)
    (front : take kept new ≡ filter (λ other. not (other == rule)) (take count rules)) (few : kept ≤ count) (long : length new ≡ length rules) where
  -- one rule is left out
  pub one_less : kept + 1 ≡ count
  one_less =
      let order = take count rules in
      let once : length (filter (λ other. other == rule) order) ≡ 1 = length-filter (λ other. other == rule) order ∙ is.once rule below in
      let both = length-filter_both (λ other. other == rule) (λ other. not (other == rule)) (λ other. refl) order in
      let all : length order ≡ count = length-take-le count rules within in
      let others : length (take kept new) ≡ kept = length-take-le kept new (omega (arith, few, within, long)) in
      let same = ap length front in
      omega (arith, once, both, all, others, same)

  pub fired_order : take count (slice_set new kept rule) ≡ moved_last rule (take count rules)
  fired_order =
      let one = one_less in
      ap (λ n. take n (slice_set new kept rule)) (sym one) ∙ take_more_set new kept rule (omega (arith, one, within, long))
      ∙ ap (λ others. others ++ rule ∷ []) front

  pub fired_is_order : IsOrder count (take count (slice_set new kept rule))
  fired_is_order = subst (IsOrder count) (sym fired_order) (moved_order count rule (take count rules) is below)

-- the first that passes, from a place on
pub find_from : {X : Type 0} (f : X → Bool) (xs : List X) (i : ℕ) (x : X) → slice_get xs i ≡ Some x
    → find f (drop i xs) ≡ cond (f x) (Some x) (find f (drop (suc i) xs))
find_from f [] i x found = cc
find_from f (y ∷ ys) zero x found =
    let same : y ≡ x = cc in
    ap (λ z. cond (f z) (Some z) (find f ys)) same
find_from f (y ∷ ys) (suc i) x found = find_from f ys i x found

-- what stands at a place, whatever is asked for where nothing does
pub stands_at : (xs : List ℕ) (i a b : ℕ) → i < length xs → get_or xs i a ≡ get_or xs i b
stands_at [] i a b less = absurd (omega (arith, less))
stands_at (x ∷ xs) zero a b less = refl
stands_at (x ∷ xs) (suc i) a b less = stands_at xs i a b (omega (arith, less))
