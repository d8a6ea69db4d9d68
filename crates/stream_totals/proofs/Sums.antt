-- Sums of few numbers of 64 bits fit into 128 bits.
use mir.Syntax.{w64, w128}
use Rattle.std.proofs.Common.{◌≡◌, ℕ, zero, suc, ◌+◌, ◌*◌, ◌≤◌, ◌^◌, List, [], ◌∷◌, ◌++◌, ℤ, pos, neg_ℤ, ◌+ℤ◌, ◌≤ℤ◌, ◌<ℤ◌, length, take, slice_get, slice_index_or, Some, FitsSigned, to_z, of_z, length-append, ap, sym, ◌∙◌, subst, arith}
use Rattle.std.proofs.lemmas.List.Sums.{fold_push, fold-append}
use Rattle.std.proofs.lemmas.List.{length-take-le, take_all}
use Rattle.std.proofs.lemmas.Int.{ints}
use Rattle.hume_base.specs.Words.{int_of}
use Rattle.stream_totals.specs.declared.total.Total.{Total}
use Rattle.stream_totals.specs.Totals.{number_of, sum_from, total_of_words}

-- a number lies between these
pub record IsWithin (z : ℤ) (few : ℕ) : Type 0 where
  pub above : neg_ℤ (pos few) ≤ℤ z
  pub below : z ≤ℤ pos few

-- a word of 64 bits stands for one below 2^63
word_below : (word : ℕ) → int_of word <ℤ pos (2 ^ 63)
word_below word = omega (arith, ints)

number_within : (word : ℕ) → IsWithin (int_of word) (2 ^ 63)
number_within word = record { above = omega (arith, ints); below = omega (arith, ints) }

-- one number more
more_within : (z number : ℤ) (few : ℕ) → IsWithin z few → IsWithin number (2 ^ 63) → IsWithin (z +ℤ number) (few + 2 ^ 63)
more_within z number few it its = let a = it.above in let b = it.below in let c = its.above in let d = its.below in
    record { above = omega (arith, ints, a, c); below = omega (arith, ints, b, d) }

-- a sum of so many
pub sum_within : (z : ℤ) (few : ℕ) (rows : List (List ℕ)) → IsWithin z few → IsWithin (sum_from z rows) (few + length rows * 2 ^ 63)
sum_within z few [] it = subst (IsWithin z) (omega arith) it
sum_within z few (words ∷ rows) it =
    subst (IsWithin (sum_from (z +ℤ number_of words) rows)) (omega arith)
    (sum_within (z +ℤ number_of words) (few + 2 ^ 63) rows (more_within z (number_of words) few it (number_within (slice_index_or words 0 0))))

-- the next number is added exactly

module _ (sum number : ℤ) (few : ℕ) (small : few ≤ 2 ^ 126) (it : IsWithin sum few) (its : IsWithin number (2 ^ 63)) where
  pub more_fits : FitsSigned w128 (to_z w128 (of_z w128 sum) +ℤ to_z w128 (of_z w128 number))
  more_fits = let a = it.above in let b = it.below in let c = its.above in let d = its.below in omega (arith, ints, a, b, c, d, small)

  pub more_exact : to_z w128 (of_z w128 (to_z w128 (of_z w128 sum) +ℤ to_z w128 (of_z w128 number))) ≡ sum +ℤ number
  more_exact = let a = it.above in let b = it.below in let c = its.above in let d = its.below in omega (arith, ints, a, b, c, d, small)

take_more : {X : Type 0} (xs : List X) (n : ℕ) (x : X) → slice_get xs n ≡ Some x → take (suc n) xs ≡ take n xs ++ x ∷ []
take_more [] n x is = cc
take_more (y ∷ xs) zero x is = let same : y ≡ x = cc in ap (λ z. z ∷ []) same
take_more (y ∷ xs) (suc n) x is = ap (λ later. y ∷ later) (take_more xs n x is)

pub sum_more : (before : ℤ) (rows : List (List ℕ)) (n : ℕ) (words : List ℕ) → slice_get rows n ≡ Some words
    → sum_from before (take n rows) +ℤ number_of words ≡ sum_from before (take (n + 1) rows)
sum_more before rows n words is =
    let next : suc n ≡ n + 1 = omega arith in
    sym (fold_push (λ sum words. sum +ℤ number_of words) before (take n rows) words)
    ∙ ap (sum_from before) (sym (take_more rows n words is) ∙ ap (λ k. take k rows) next)

-- the sum of some values and of the first of others is small
pub so_far_within : (old : Total) (rows others : List (List ℕ)) (n : ℕ) → old ≡ total_of_words rows → n ≤ length others
    → IsWithin (sum_from old.sum (take n others)) (length rows * 2 ^ 63 + n * 2 ^ 63)
so_far_within old rows others n is within =
    let few : length (take n others) ≡ n = length-take-le n others within in
    subst (λ k. IsWithin (sum_from old.sum (take n others)) (length rows * 2 ^ 63 + k * 2 ^ 63)) few
    (sum_within old.sum (length rows * 2 ^ 63) (take n others)
    (subst (λ (t : Total). IsWithin t.sum (length rows * 2 ^ 63)) (sym is)
    (subst (IsWithin (sum_from (pos 0) rows)) (omega arith) (sum_within (pos 0) 0 rows nothing_within))))
  where
    nothing_within : IsWithin (pos 0) 0
    nothing_within = record { above = omega (arith, ints); below = omega (arith, ints) }

-- the total of some values and of all others
pub total_more : (old new : Total) (rows others : List (List ℕ)) (n : ℕ) → old ≡ total_of_words rows → length others ≤ n
    → new.sum ≡ sum_from old.sum (take n others) → new.count ≡ old.count + length others → new ≡ total_of_words (rows ++ others)
total_more old new rows others n is past sum count =
    let all : take n others ≡ others = take_all n others past in
    let sums : new.sum ≡ sum_from (pos 0) (rows ++ others) =
    sum ∙ ap (sum_from old.sum) all ∙ ap (λ (t : Total). sum_from t.sum others) is
    ∙ sym (fold-append (λ sum words. sum +ℤ number_of words) (pos 0) rows others) in
    let counts : new.count ≡ length (rows ++ others) = count ∙ ap (λ (t : Total). t.count + length others) is ∙ sym (length-append rows others) in
    λ i. record { count = counts i; sum = sums i }

-- the number of a value's words, in more bits
module _ (number wide : ℤ) (words : List ℕ) (read : number ≡ number_of words) (widened : wide ≡ to_z w64 (of_z w64 number)) where
  pub wide_within : IsWithin wide (2 ^ 63)
  wide_within = subst (λ z. IsWithin z (2 ^ 63)) (sym widened) (number_within (of_z w64 number))

  pub wide_exact : wide ≡ number_of words
  wide_exact =
      let same : to_z w64 (of_z w64 number) ≡ number = signed_same number (slice_index_or words 0 0) read in
      widened ∙ same ∙ read
    where
      signed_same : (z : ℤ) (word : ℕ) → z ≡ int_of word → to_z w64 (of_z w64 z) ≡ z
      signed_same z word is =
          let a = (number_within word).above in
          let b = word_below word in
          omega (arith, ints, a, b, is)

pub of_sum : (sum other : ℤ) (few : ℕ) → sum ≡ other → IsWithin other few → IsWithin sum few
of_sum sum other few same it = subst (λ z. IsWithin z few) (sym same) it
