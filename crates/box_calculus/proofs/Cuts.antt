-- A line is its first word and the words of the rest.
use Rattle.std.proofs.lemmas.List.{take_rest}
use Rattle.std.proofs.lemmas.List.Splits.{length-slice_split, slice_split_first, slice_split_none}
use Rattle.std.proofs.lemmas.List.Sums.{fails_before_first}
use Rattle.std.proofs.Common.{◌≡◌, ℕ, ◌+◌, ◌-◌, ◌<◌, nat_lt, Bool, true, false, cond, List, [], ◌∷◌, length, take, drop, Some, None, refl, ap, sym, ◌∙◌, arith}
use Rattle.std.specs.List.{position, position_or_len, slice_split}
use Rattle.std.proofs.lemmas.Bool.{ltb-false, ltb-true}
use Rattle.hume_model.specs.declared.core_tree.Core.{Core}
use Rattle.box_calculus.specs.Lines.{is_space, step_of, step_of_words, words_of}

some_within : (n count at : ℕ) → cond (nat_lt n count) (Some n) None ≡ Some at → (n ≡ at) × (n < count)
some_within n count at is = by (nat_lt n count) refl is
  where
    by : (b : Bool) → nat_lt n count ≡ b → cond b (Some n) None ≡ Some at → (n ≡ at) × (n < count)
    by true below some = ((let same : n ≡ at = cc in same), ltb-true n count below)
    by false below some = cc

pub position_within : {X : Type 0} (test : X → Bool) (xs : List X) (at : ℕ) → position test xs ≡ Some at → at < length xs
position_within test xs at is = let both = some_within (position_or_len test xs) (length xs) at is in rw (← both.0) both.1

-- where no element passes the test, all is one part
pub one_part : (test : ℕ → Bool) (xs : List ℕ) → position test xs ≡ None → slice_split test xs ≡ xs ∷ []
one_part test xs none = slice_split_none test xs (λ k x within. fails_before_first test xs k x (at_end (length xs) (position_or_len test xs) none within))
  where
    at_end : (count n : ℕ) → cond (nat_lt n count) (Some n) None ≡ None → {k : ℕ} → k < count → k < n
    at_end count n none {k} within = by (nat_lt n count) refl none
      where
        by : (b : Bool) → nat_lt n count ≡ b → cond b (Some n) None ≡ None → k < n
        by true below none = cc
        by false below none = (let least = ltb-false n count below in omega (arith, least, within))

-- where one does, the first part ends before the first that does
pub first_part : (test : ℕ → Bool) (xs : List ℕ) (at : ℕ) → position test xs ≡ Some at
    → slice_split test xs ≡ take at xs ∷ slice_split test (drop (at + 1) xs)
first_part test xs at is =
    let both = some_within (position_or_len test xs) (length xs) at is in
    slice_split_first test xs 0 both.1 ∙ ap (λ k. take k xs ∷ slice_split test (drop (k + 1) xs)) both.0

pub no_cut : (xs : List ℕ) → position is_space xs ≡ None → words_of xs ≡ xs ∷ []
no_cut = one_part is_space

cut_at : (xs : List ℕ) (at : ℕ) → position is_space xs ≡ Some at → words_of xs ≡ take at xs ∷ words_of (drop (at + 1) xs)
cut_at = first_part is_space

-- the same by slices of the line
pub cut_slices : (xs : List ℕ) (at : ℕ) → position is_space xs ≡ Some at
    → words_of xs ≡ take at xs ∷ words_of (take (length xs - (at + 1)) (drop (at + 1) xs))
cut_slices xs at is = cut_at xs at is ∙ ap (λ rest. take at xs ∷ words_of rest) (sym (take_rest xs (at + 1)))

five_words : (core : Core) (verb name rule word : List ℕ) (words : List (List ℕ)) → 0 < length words
    → step_of_words core (verb ∷ name ∷ rule ∷ word ∷ words) ≡ None
five_words core verb name rule word [] some = absurd (omega arith)
five_words core verb name rule word (next ∷ words) some = refl

some_words : (xs : List ℕ) → 0 < length (words_of xs)
some_words xs = let count = length-slice_split is_space xs in omega (arith, count)

-- a line of five words or more asks for no step
pub too_many_words : (core : Core) (line verb later name later_2 rule function word rest : List ℕ)
    → words_of line ≡ verb ∷ words_of later → words_of later ≡ name ∷ words_of later_2 → words_of later_2 ≡ rule ∷ words_of function
    → words_of function ≡ word ∷ words_of rest → step_of core line ≡ None
too_many_words core line verb later name later_2 rule function word rest one two three four =
    ap (step_of_words core)
    (one ∙ ap (λ ws. verb ∷ ws) (two ∙ ap (λ ws. name ∷ ws) (three ∙ ap (λ ws. rule ∷ ws) four)))
    ∙ five_words core verb name rule word (words_of rest) (some_words rest)

pub ruleset cut_steps = (cut_slices, no_cut, position_within)
