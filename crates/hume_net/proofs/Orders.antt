-- The order in which the rules are written is an order of them, and so is one of which a rule is moved last.
use Rattle.std.proofs.Common.{◌≡◌, ℕ, zero, suc, ◌+◌, ◌<◌, ◌≤◌, ◌==◌, nat_lt, not, Bool, true, false, cond, if◌then◌else◌, List, [], ◌∷◌, ◌++◌, refl, ap, sym, ◌∙◌, inl, inr, ◌⊎◌, zero-add, arith, count_by}
use Rattle.std.proofs.lemmas.Bool.{and_parts, lt-ltb, eq-eqb, ne_eqb}
use Rattle.std.proofs.lemmas.Bool.Decides.{eqb_tells}
use Rattle.std.proofs.lemmas.List.Sums.{sum_by-append}
use Rattle.std.specs.List.{filter, list_all, range_with_len}
use Rattle.hume_model.proofs.PatternTypes.{both_true}
use Rattle.hume_net.specs.HalfSteps.{moved_last}
use Rattle.hume_net.specs.StatePlaces.{IsOrder}

-- which numbers there are

module _ (count : ℕ) where
  abbrev AreBelow : List ℕ → Type 0
  AreBelow order = list_all (λ number. nat_lt number count) order ≡ true

  one_kept : (keep : Bool) (rule : ℕ) (order : List ℕ) → nat_lt rule count ≡ true → AreBelow order → AreBelow (if keep then rule ∷ order else order)
  one_kept true rule order h all = both_true _ _ h all
  one_kept false rule order h all = all

  some_kept : (test : ℕ → Bool) (order : List ℕ) → AreBelow order → AreBelow (filter test order)
  some_kept test [] all = refl
  some_kept test (rule ∷ order) all = let parts = and_parts _ _ all in one_kept (test rule) rule (filter test order) parts.0 (some_kept test order parts.1)

  with_last : (order : List ℕ) (rule : ℕ) → AreBelow order → nat_lt rule count ≡ true → AreBelow (order ++ rule ∷ [])
  with_last [] rule all h = both_true _ _ h refl
  with_last (first ∷ order) rule all h = let parts = and_parts _ _ all in both_true _ _ parts.0 (with_last order rule parts.1 h)

  from_on : (from more : ℕ) → from + more ≤ count → AreBelow (range_with_len from more)
  from_on from zero h = refl
  from_on from (suc more) h = both_true _ _ (lt-ltb from count (omega (arith, h))) (from_on (from + 1) more (omega (arith, h)))

-- how often each

abbrev times : ℕ → List ℕ → ℕ
times number order = count_by (λ other. other == number) order

times-first : (first number : ℕ) (order : List ℕ) → times number (first ∷ order) ≡ 0 + cond (first == number) 1 0 + times number order
times-first first number order = sum_by-append (λ other. cond (other == number) 1 0) (first ∷ []) order

one_same : (first number : ℕ) (order : List ℕ) → first ≡ number → times number (first ∷ order) ≡ 1 + times number order
one_same first number order same = times-first first number order ∙ ap (λ b. 0 + cond b 1 0 + times number order) (eq-eqb first number same)

one_other : (first number : ℕ) (order : List ℕ) → (first ≡ number → ⊥) → times number (first ∷ order) ≡ times number order
one_other first number order other =
    times-first first number order ∙ ap (λ b. 0 + cond b 1 0 + times number order) (ne_eqb first number other) ∙ zero-add (times number order)

same_or_other : (a b : ℕ) → (a ≡ b) ⊎ (a ≡ b → ⊥)
same_or_other a b = elim (eqb_tells a b) [ inl same ↦ inl same.1 | inr other ↦ inr other.1 ]

times-last : (number : ℕ) (order : List ℕ) (last : ℕ) → times number (order ++ last ∷ []) ≡ times number order + times number (last ∷ [])
times-last number [] last = omega arith
times-last number (first ∷ order) last = elim (same_or_other first number) [
  | inl same ↦ (let e = one_same first number (order ++ last ∷ []) same in let f = one_same first number order same in let more = times-last number order last in omega (arith, e, f, more))
  | inr other ↦ (let e = one_other first number (order ++ last ∷ []) other in let f = one_other first number order other in let more = times-last number order last in omega (arith, e, f, more))
]

-- the others, without a rule
module _ (rule : ℕ) where
  abbrev others : List ℕ → List ℕ
  others order = filter (λ other. not (other == rule)) order

  others-same : (first : ℕ) (order : List ℕ) → first ≡ rule → others (first ∷ order) ≡ others order
  others-same first order same = ap (λ b. if not b then first ∷ others order else others order) (eq-eqb first rule same)

  others-other : (first : ℕ) (order : List ℕ) → (first ≡ rule → ⊥) → others (first ∷ order) ≡ first ∷ others order
  others-other first order other = ap (λ b. if not b then first ∷ others order else others order) (ne_eqb first rule other)

  gone : (order : List ℕ) → times rule (others order) ≡ 0
  gone [] = refl
  gone (first ∷ order) = elim (same_or_other first rule) [
    | inl same ↦ ap (times rule) (others-same first order same) ∙ gone order
    | inr other ↦ ap (times rule) (others-other first order other) ∙ one_other first rule (others order) other ∙ gone order
  ]

  kept : (number : ℕ) → (number ≡ rule → ⊥) → (order : List ℕ) → times number (others order) ≡ times number order
  kept number apart [] = refl
  kept number apart (first ∷ order) = elim (same_or_other first rule) [
    | inl same ↦ ap (times number) (others-same first order same) ∙ kept number apart order ∙ sym (one_other first number order (λ e. apart (sym e ∙ same)))
    | inr other ↦ ap (times number) (others-other first order other) ∙ elim (same_or_other first number) [
      | inl is ↦ one_same first number (others order) is ∙ ap (λ n. 1 + n) (kept number apart order) ∙ sym (one_same first number order is)
      | inr not_it ↦ one_other first number (others order) not_it ∙ kept number apart order ∙ sym (one_other first number order not_it)
    ]
  ]

  moved_once : (number : ℕ) (order : List ℕ) → times number order ≡ 1 → times number (moved_last rule order) ≡ 1
  moved_once number order once = times-last number (others order) rule ∙ elim (same_or_other number rule) [
    | inl same ↦ (let none : times number (others order) ≡ 0 = ap (λ n. times n (others order)) same ∙ gone order in
        let one : times number (rule ∷ []) ≡ 1 + 0 = one_same rule number [] (sym same) in
        omega (arith, none, one))
    | inr apart ↦ (let all : times number (others order) ≡ times number order = kept number apart order in
        let none : times number (rule ∷ []) ≡ 0 = one_other rule number [] (λ e. apart (sym e)) in
        omega (arith, all, none, once))
  ]

pub moved_order : (count rule : ℕ) (order : List ℕ) → IsOrder count order → rule < count → IsOrder count (moved_last rule order)
moved_order count rule order is within = record {
  below = with_last count (others rule order) rule (some_kept count (λ other. not (other == rule)) order is.below) (lt-ltb rule count within);
  once = λ number less. moved_once rule number order (is.once number less);
}

not_before : (number from more : ℕ) → number < from → times number (range_with_len from more) ≡ 0
not_before number from zero less = refl
not_before number from (suc more) less =
    one_other from number (range_with_len (from + 1) more) (λ e. (let h : ⊥ = omega (arith, e, less) in h))
    ∙ not_before number (from + 1) more (omega (arith, less))

once_from : (number from more : ℕ) → from ≤ number → number < from + more → times number (range_with_len from more) ≡ 1
once_from number from zero low high = absurd (omega (arith, low, high))
once_from number from (suc more) low high = elim (same_or_other from number) [
  | inl same ↦ one_same from number (range_with_len (from + 1) more) same ∙ ap (λ n. 1 + n) (not_before number (from + 1) more (omega (arith, same)))
  | inr other ↦ one_other from number (range_with_len (from + 1) more) other ∙ once_from number (from + 1) more (omega (arith, low, other)) (omega (arith, high))
]

pub first_order : (count : ℕ) → IsOrder count (range_with_len 0 count)
first_order count = record {
  below = from_on count 0 count (omega arith);
  once = λ number less. once_from number 0 count (omega arith) (omega (arith, less));
}
