-- The nodes of a group: each once, and no others.
use Rattle.std.proofs.Common.{◌≡◌, ◌+◌, ◌<◌, ◌≤◌, ◌⊎◌, ℕ, zero, suc, List, [], ◌∷◌, ◌++◌, length, length-append, Some, slice_get, refl, ap, sym, ◌∙◌, inl, inr, eq-eqb, ne_eqb, arith}
use Rattle.std.proofs.lemmas.Bool.{cases_eq}
use Rattle.std.proofs.lemmas.Option.{slice_get_within}
use Rattle.wire_cells.specs.Homes.{AreApart}
use Rattle.step_turns.proofs.Lists.{last_get, front_get}
use Rattle.superstep_core.specs.declared.grouping.Grouping.{Grouping}
use Rattle.superstep_core.specs.Groups.{group_of}
use Rattle.turn_workers.specs.Members.{members_from}

-- a place of a list with one element more is a place of the list, or the last one
pub one_more : {X : Type 0} (xs : List X) (x : X) (k : ℕ) (y : X) → slice_get (xs ++ x ∷ []) k ≡ Some y → (slice_get xs k ≡ Some y) ⊎ ((k ≡ length xs) × (x ≡ y))
one_more xs x k y at = elim (cases_eq k (length xs)) [
  | inl same ↦ (let both : Some x ≡ Some y = sym (last_get xs x) ∙ ap (slice_get (xs ++ x ∷ [])) (sym same) ∙ at in inr (same, (let is : x ≡ y = cc in is)))
  | inr apart ↦ (
      let inside = slice_get_within (xs ++ x ∷ []) k y at in
      let more = length-append xs (x ∷ []) in
      inl (sym (front_get xs (x ∷ []) k (omega (arith, inside, more, apart))) ∙ at))
]

no_more : {X : Type 0} (xs : List X) → xs ++ [] ≡ xs
no_more [] = refl
no_more (x ∷ xs) = ap (λ ys. x ∷ ys) (no_more xs)

module _ (g : Grouping) (i : ℕ) where
  pub one_member : (from count : ℕ) → group_of g from ≡ i → members_from g i from (suc count) ≡ members_from g i (suc from) count ++ from ∷ []
  one_member from count e = rw (eq-eqb (group_of g from) i e) refl

  pub no_member : (from count : ℕ) → (group_of g from ≡ i → ⊥) → members_from g i from (suc count) ≡ members_from g i (suc from) count
  no_member from count other = rw (ne_eqb (group_of g from) i other) (no_more (members_from g i (suc from) count))

  pub member_is : (from count k n : ℕ) → slice_get (members_from g i from count) k ≡ Some n → (from ≤ n) × (n < from + count) × (group_of g n ≡ i)
  member_is from zero k n at = absurd (let inside = slice_get_within (members_from g i from zero) k n at in omega (arith, inside))
  member_is from (suc count) k n at = elim (cases_eq (group_of g from) i) [
    | inl mine ↦ elim (one_more (members_from g i (suc from) count) from k n (ap (λ xs. slice_get xs k) (sym (one_member from count mine)) ∙ at)) [
      | inl before ↦ (let is = member_is (suc from) count k n before in let low = is.0 in let high = is.1 in
          (omega (arith, low), omega (arith, high), is.2))
      | inr last ↦ (let same = last.1 in (omega (arith, same), omega (arith, same), ap (group_of g) (sym same) ∙ mine))
    ]
    | inr other ↦ (let is = member_is (suc from) count k n (ap (λ xs. slice_get xs k) (sym (no_member from count other)) ∙ at) in
        let low = is.0 in let high = is.1 in
        (omega (arith, low), omega (arith, high), is.2))
  ]

  pub is_member : (from count n : ℕ) → from ≤ n → n < from + count → group_of g n ≡ i → (k : ℕ) × (slice_get (members_from g i from count) k ≡ Some n)
  is_member from zero n low high mine = absurd (omega (arith, low, high))
  is_member from (suc count) n low high mine = elim (cases_eq from n) [
    | inl same ↦ (
      length (members_from g i (suc from) count),
      ap (λ xs. slice_get xs (length (members_from g i (suc from) count))) (one_member from count (ap (group_of g) same ∙ mine))
          ∙ last_get (members_from g i (suc from) count) from ∙ ap (λ m. Some m) same,
    )
    | inr apart ↦ (
        let at = is_member (suc from) count n (omega (arith, low, apart)) (omega (arith, high)) mine in (
          at.0,
          elim (cases_eq (group_of g from) i) [
            | inl also ↦ ap (λ xs. slice_get xs at.0) (one_member from count also)
                ∙ front_get (members_from g i (suc from) count) (from ∷ []) at.0 (slice_get_within (members_from g i (suc from) count) at.0 n at.1) ∙ at.1
            | inr other ↦ ap (λ xs. slice_get xs at.0) (no_member from count other) ∙ at.1
          ],
        ))
  ]

  pub members_apart : (from count j k n : ℕ) → slice_get (members_from g i from count) j ≡ Some n → slice_get (members_from g i from count) k ≡ Some n → j ≡ k
  members_apart from zero j k n first second = absurd (let inside = slice_get_within (members_from g i from zero) k n second in omega (arith, inside))
  members_apart from (suc count) j k n first second = elim (cases_eq (group_of g from) i) [
    | inl mine ↦ both_cases (λ a b. members_apart (suc from) count j k n a b) (one_more xs from j n (ap (λ ys. slice_get ys j) (sym (one_member from count mine)) ∙ first))
        (one_more xs from k n (ap (λ ys. slice_get ys k) (sym (one_member from count mine)) ∙ second))
    | inr other ↦ members_apart (suc from) count j k n (ap (λ ys. slice_get ys j) (sym (no_member from count other)) ∙ first)
        (ap (λ ys. slice_get ys k) (sym (no_member from count other)) ∙ second)
  ]
    where
      xs : List ℕ
      xs = members_from g i (suc from) count

      above : (p : ℕ) → slice_get xs p ≡ Some n → from ≡ n → ⊥
      above p at same = let low = (member_is (suc from) count p n at).0 in omega (arith, low, same)

      both_cases : (slice_get xs j ≡ Some n → slice_get xs k ≡ Some n → j ≡ k) → (slice_get xs j ≡ Some n) ⊎ ((j ≡ length xs) × (from ≡ n)) → (slice_get xs k ≡ Some n) ⊎ ((k ≡ length xs) × (from ≡ n)) → j ≡ k
      both_cases rec (inl a) (inl b) = rec a b
      both_cases rec (inl a) (inr b) = absurd (above j a b.1)
      both_cases rec (inr a) (inl b) = absurd (above k b a.1)
      both_cases rec (inr a) (inr b) = a.0 ∙ sym b.0

  pub all_apart : (from count : ℕ) → AreApart (members_from g i from count)
  all_apart from count = record { once = members_apart from count }
