-- Words that are taken out under the top one.
use Rattle.std.proofs.Common.{◌≡◌, ℕ, zero, suc, ◌+◌, ◌-◌, ◌<◌, ◌≤◌, List, [], ◌∷◌, ◌++◌, length, take, Some, Option, refl, ap, sym, ◌∙◌, arith}
use Rattle.std.proofs.lemmas.List.{length-take-le}
use Rattle.box_heap.specs.Stacks.{StackView, at_depth, under}

-- fewer of the first words
pub take_fewer : (m n : ℕ) (words : List ℕ) → m ≤ n → take m (take n words) ≡ take m words
take_fewer zero n words less = refl
take_fewer (suc m) zero words less = absurd (omega (arith, less))
take_fewer (suc m) (suc n) [] less = refl
take_fewer (suc m) (suc n) (word ∷ words) less = ap (λ ws. word ∷ ws) (take_fewer m n words (omega (arith, less)))

-- without one word and then without so many is without all of them
under_both : (count : ℕ) (words : List ℕ) → count + 1 ≤ length words → under count (under 1 words) ≡ under (1 + count) words
under_both count words enough =
    let left : length (under 1 words) ≡ length words - 1 = length-take-le (length words - 1) words (omega arith) in
    let fewer : length words - 1 - count ≡ length words - (1 + count) = omega arith in
    let less : length words - 1 - count ≤ length words - 1 = omega arith in
    ap (λ n. take (n - count) (under 1 words)) left ∙ take_fewer (length words - 1 - count) (length words - 1) words less ∙ ap (λ n. take n words) fewer

module _ (first popped dropped : StackView) (count : ℕ) (pop : popped ≡ record first { words = under 1 first.words })
    (drop : dropped ≡ record popped { words = under count popped.words }) (enough : count + 1 ≤ length first.words) where
  words_left : dropped.words ≡ under (1 + count) first.words
  words_left = ap (λ (v : StackView). v.words) drop ∙ ap (λ (v : StackView). under count v.words) pop ∙ under_both count first.words enough

  all_left : dropped ≡ record first { words = under (1 + count) first.words }
  all_left = drop ∙ ap (λ (v : StackView). record v { words = under count v.words }) pop
      ∙ ap (λ ws. record first { words = ws }) (under_both count first.words enough)

  -- there is room for a word
  pub room_left : length first.words ≤ first.room → length dropped.words < dropped.room
  room_left fits =
      let words = ap length words_left in
      let taken : length (under (1 + count) first.words) ≡ length first.words - (1 + count) = length-take-le (length first.words - (1 + count)) first.words
      (omega arith) in
      let room : dropped.room ≡ first.room = ap (λ (v : StackView). v.room) all_left in
      omega (arith, words, taken, room, enough, fits)

  -- the top word is put back
  pub slid : (last : StackView) (top word : ℕ) → last ≡ record dropped { words = dropped.words ++ top ∷ [] } → at_depth 0 first.words ≡ Some top
      → at_depth 0 first.words ≡ Some word
      → last ≡ record first { words = under (1 + count) first.words ++ word ∷ [] }
  slid last top word put is same =
      let one : ◌≡◌ {A = Option ℕ} (Some top) (Some word) = sym is ∙ same in
      let equal : top ≡ word = cc in
      put ∙ ap (λ (v : StackView). record v { words = v.words ++ top ∷ [] }) all_left
      ∙ ap (λ w. record first { words = under (1 + count) first.words ++ w ∷ [] }) equal
