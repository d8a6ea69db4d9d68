-- The first that passes a test: in lists one behind the other, and among numbers.
use Rattle.std.proofs.Common.{◌≡◌, ℕ, zero, suc, ◌+◌, ◌<◌, ◌≤◌, Bool, true, false, cond, List, [], ◌∷◌, ◌++◌, map, Option, Some, None, slice_get, refl, ap, sym, ◌∙◌, inl, inr, arith}
use Rattle.std.specs.List.{find, range_with_len}
use Rattle.std.specs.Option.{is_some, option_map}
use Rattle.std.proofs.lemmas.Bool.{cases_Bool, cases_lt, true≢false}

-- lists

pub find_behind : {X : Type 0} (test : X → Bool) (xs ys : List X) → ((n : ℕ) (x : X) → slice_get xs n ≡ Some x → test x ≡ false)
    → find test (xs ++ ys) ≡ find test ys
find_behind test [] ys fails = refl
find_behind test (x ∷ xs) ys fails =
    ap (λ b. cond b (Some x) (find test (xs ++ ys))) (fails 0 x refl) ∙ find_behind test xs ys (λ n y found. fails (suc n) y found)

pub find_front : {X : Type 0} (test : X → Bool) (xs ys : List X) → ((n : ℕ) (y : X) → slice_get ys n ≡ Some y → test y ≡ false)
    → find test (xs ++ ys) ≡ find test xs
find_front test [] [] fails = refl
find_front test [] (y ∷ ys) fails =
    ap (λ b. cond b (Some y) (find test ys)) (fails 0 y refl) ∙ find_front test [] ys (λ n z found. fails (suc n) z found)
find_front test (x ∷ xs) ys fails = ap (λ o. cond (test x) (Some x) o) (find_front test xs ys fails)

pub find_mapped : {X Y : Type 0} (test : Y → Bool) (f : X → Y) (other : X → Bool) → ((x : X) → test (f x) ≡ other x) → (xs : List X)
    → find test (map f xs) ≡ option_map f (find other xs)
find_mapped test f other same [] = refl
find_mapped test f other same (x ∷ xs) =
    (λ i. cond (same x i) (Some (f x)) (find_mapped test f other same xs i)) ∙ by (other x)
  where
    by : (b : Bool) → cond b (Some (f x)) (option_map f (find other xs)) ≡ option_map f (cond b (Some x) (find other xs))
    by true = refl
    by false = refl

-- what was found stands in the list
pub was_there : {X : Type 0} (test : X → Bool) (xs : List X) (x : X) → find test xs ≡ Some x → (n : ℕ) × (slice_get xs n ≡ Some x)
was_there test [] x found = cc
was_there test (y ∷ ys) x found = by (test y) refl (λ is. was_there test ys x is)
  where
    by : (b : Bool) → test y ≡ b → (find test ys ≡ Some x → (n : ℕ) × (slice_get ys n ≡ Some x)) → (n : ℕ) × (slice_get (y ∷ ys) n ≡ Some x)
    by true is later = (0, sym (ap (λ b. cond b (Some y) (find test ys)) is) ∙ found)
    by false is later = (let at = later (sym (ap (λ b. cond b (Some y) (find test ys)) is) ∙ found) in (suc at.0, at.1))

-- numbers

-- the number is in the range and passes, and none before it does
pub record IsFirst (test : ℕ → Bool) (from count number : ℕ) : Type 0 where
  pub least : from ≤ number
  pub most : number < from + count
  pub passes : test number ≡ true
  pub before : (other : ℕ) → from ≤ other → other < number → test other ≡ false

pub first_found : (test : ℕ → Bool) (from count number : ℕ) → find test (range_with_len from count) ≡ Some number → IsFirst test from count number
first_found test from zero number is = cc
first_found test from (suc count) number is = elim (cases_Bool (test from)) [
  | inl here ↦ (
      let same : from ≡ number = (let some : ◌≡◌ {A = Option ℕ} (Some from) (Some number) =
      sym (ap (λ b. cond b (Some from) (find test (range_with_len (from + 1) count))) here) ∙ is in cc) in
      record {
        least = omega (arith, same);
        most = omega (arith, same);
        passes = ap test (sym same) ∙ here;
        before = λ other low high. absurd (omega (arith, same, low, high));
      })
  | inr none ↦ (
      let later = first_found test (from + 1) count number
      (sym (ap (λ b. cond b (Some from) (find test (range_with_len (from + 1) count))) none) ∙ is) in
      let least = later.least in
      let most = later.most in
      record {
        least = omega (arith, least);
        most = omega (arith, most);
        passes = later.passes;
        before = λ other low high. elim (cases_lt from other) [
          | inl more ↦ later.before other (omega (arith, more)) high
          | inr less ↦ (let same : other ≡ from = omega (arith, less, low) in ap test same ∙ none)
        ];
      })
]

pub none_found : (test : ℕ → Bool) (from count : ℕ) → find test (range_with_len from count) ≡ None → (number : ℕ) → from ≤ number → number < from + count
    → test number ≡ false
none_found test from zero is number low high = absurd (omega (arith, low, high))
none_found test from (suc count) is number low high = elim (cases_Bool (test from)) [
  | inl here ↦ (
      let some : ◌≡◌ {A = Option ℕ} (Some from) None = sym (ap (λ b. cond b (Some from) (find test (range_with_len (from + 1) count))) here) ∙ is in cc)
  | inr none ↦ elim (cases_lt from number) [
    | inl more ↦ none_found test (from + 1) count
        (sym (ap (λ b. cond b (Some from) (find test (range_with_len (from + 1) count))) none) ∙ is) number (omega (arith, more)) (omega (arith, high))
    | inr less ↦ (let same : number ≡ from = omega (arith, less, low) in ap test same ∙ none)
  ]
]

pub finds_none : (test : ℕ → Bool) (from count : ℕ) → ((number : ℕ) → from ≤ number → number < from + count → test number ≡ false)
    → find test (range_with_len from count) ≡ None
finds_none test from zero fails = refl
finds_none test from (suc count) fails =
    ap (λ b. cond b (Some from) (find test (range_with_len (from + 1) count))) (fails from (omega arith) (omega arith))
    ∙ finds_none test (from + 1) count (λ number low high. fails number (omega (arith, low)) (omega (arith, high)))

pub finds_first : (test : ℕ → Bool) (from count number : ℕ) → IsFirst test from count number → find test (range_with_len from count) ≡ Some number
finds_first test from count number is = by (find test (range_with_len from count)) refl
  where
    by : (o : Option ℕ) → find test (range_with_len from count) ≡ o → o ≡ Some number
    by None none = absurd (true≢false (sym is.passes ∙ none_found test from count none number is.least is.most))
    by (Some other) some =
        let found = first_found test from count other some in
        let not_less : number ≤ other = elim (cases_lt other number) [
          | inl less ↦ absurd (true≢false (sym found.passes ∙ is.before other found.least less))
          | inr more ↦ more
        ] in
        let not_more : other ≤ number = elim (cases_lt number other) [
          | inl less ↦ absurd (true≢false (sym is.passes ∙ found.before number is.least less))
          | inr more ↦ more
        ] in
        let same : other ≡ number = omega (arith, not_less, not_more) in
        ap Some same

pub is_there : (o : Option ℕ) → is_some o ≡ true → (number : ℕ) × (o ≡ Some number)
is_there None some = cc
is_there (Some number) some = (number, refl)
