-- Where things stand in two lists, one behind the other.
use Rattle.std.proofs.Common.{◌≡◌, ℕ, zero, suc, ◌+◌, ◌<◌, nat_lt, Bool, true, false, cond, List, [], ◌∷◌, ◌++◌, map, length, take, drop, Option, Some, None, slice_get, refl, ap, sym, ◌∙◌, arith}
use Rattle.std.specs.List.{position, position_or_len}
use Rattle.std.specs.Option.{option_map}
use Rattle.std.proofs.lemmas.Bool.{lt-ltb}
use Rattle.std.proofs.lemmas.Bool.Decides.{nat_tests}

pub get_front : {X : Type 0} (xs ys : List X) (n : ℕ) (x : X) → slice_get xs n ≡ Some x → slice_get (xs ++ ys) n ≡ Some x
get_front [] ys n x found = cc
get_front (y ∷ xs) ys zero x found = found
get_front (y ∷ xs) ys (suc n) x found = get_front xs ys n x found

pub get_back : {X : Type 0} (xs ys : List X) (k : ℕ) → slice_get (xs ++ ys) (length xs + k) ≡ slice_get ys k
get_back [] ys k = (let same : 0 + k ≡ k = omega arith in ap (slice_get ys) same)
get_back (x ∷ xs) ys k = (let same : suc (length xs) + k ≡ suc (length xs + k) = omega arith in ap (slice_get (x ∷ xs ++ ys)) same ∙ get_back xs ys k)

pub get_taken : {X : Type 0} (count : ℕ) (xs : List X) (n : ℕ) → n < count → slice_get (take count xs) n ≡ slice_get xs n
get_taken zero xs n less = absurd (omega arith)
get_taken (suc count) [] n less = refl
get_taken (suc count) (x ∷ xs) zero less = refl
get_taken (suc count) (x ∷ xs) (suc n) less = get_taken count xs n (omega arith)

pub get_dropped : {X : Type 0} (count : ℕ) (xs : List X) (n : ℕ) → slice_get (drop count xs) n ≡ slice_get xs (count + n)
get_dropped zero xs n = (let same : 0 + n ≡ n = omega arith in ap (slice_get xs) (sym same))
get_dropped (suc count) [] n = (let same : suc count + n ≡ suc (count + n) = omega arith in ap (slice_get []) (sym same))
get_dropped (suc count) (x ∷ xs) n = get_dropped count xs n ∙ (let same : suc count + n ≡ suc (count + n) = omega arith in ap (slice_get (x ∷ xs)) (sym same))

after_first : (p l : ℕ) → cond (nat_lt (suc p) (suc l)) (Some (suc p)) None ≡ option_map suc (cond (nat_lt p l) (Some p) None)
after_first p l = by (nat_lt p l) refl
  where
    by : (b : Bool) → nat_lt p l ≡ b → cond (nat_lt (suc p) (suc l)) (Some (suc p)) None ≡ option_map suc (cond b (Some p) None)
    by true is = (let less : nat_lt (suc p) (suc l) ≡ true = grind (arith, nat_tests) in ap (λ t. cond t (Some (suc p)) None) less)
    by false is = (let less : nat_lt (suc p) (suc l) ≡ false = grind (arith, nat_tests) in ap (λ t. cond t (Some (suc p)) None) less)

-- the first that passes, by whether the head does
position_next : {X : Type 0} (test : X → Bool) (x : X) (xs : List X) → position test (x ∷ xs) ≡ cond (test x) (Some 0) (option_map suc (position test xs))
position_next test x xs = by (test x) refl
  where
    by : (b : Bool) → test x ≡ b → position test (x ∷ xs) ≡ cond b (Some 0) (option_map suc (position test xs))
    by true is =
        let at : position_or_len test (x ∷ xs) ≡ 0 = rw is refl in
        let less : nat_lt 0 (length (x ∷ xs)) ≡ true = lt-ltb 0 (length (x ∷ xs)) (omega arith) in
        ap (λ k. cond (nat_lt k (length (x ∷ xs))) (Some k) None) at ∙ ap (λ t. cond t (Some 0) None) less
    by false is =
        let at : position_or_len test (x ∷ xs) ≡ suc (position_or_len test xs) = rw is (omega arith) in
        ap (λ k. cond (nat_lt k (length (x ∷ xs))) (Some k) None) at ∙ after_first (position_or_len test xs) (length xs)

none_passes : {X : Type 0} (test : X → Bool) (xs : List X) → ((n : ℕ) (x : X) → slice_get xs n ≡ Some x → test x ≡ false) → position test xs ≡ None
none_passes test [] fails = refl
none_passes test (x ∷ xs) fails =
    position_next test x xs
    ∙ (λ i. cond (fails 0 x refl i) (Some 0) (option_map suc (none_passes test xs (λ n y found. fails (suc n) y found) i)))

-- of two lists of which only the first has one that passes
pub position_front : {X : Type 0} (test : X → Bool) (xs ys : List X) → ((n : ℕ) (y : X) → slice_get ys n ≡ Some y → test y ≡ false) → position test (xs ++ ys) ≡ position test xs
position_front test [] ys fails = none_passes test ys fails
position_front test (x ∷ xs) ys fails =
    position_next test x (xs ++ ys) ∙ ap (λ o. cond (test x) (Some 0) (option_map suc o)) (position_front test xs ys fails) ∙ sym (position_next test x xs)

later : (k : ℕ) (o : Option ℕ) → option_map suc (option_map (λ w. k + w) o) ≡ option_map (λ w. suc k + w) o
later k None = refl
later k (Some w) = (let same : suc (k + w) ≡ suc k + w = omega arith in ap Some same)

here : (o : Option ℕ) → o ≡ option_map (λ w. 0 + w) o
here None = refl
here (Some w) = (let same : w ≡ 0 + w = omega arith in ap Some same)

-- of which only the second has one
pub position_back : {X : Type 0} (test : X → Bool) (xs ys : List X) → ((n : ℕ) (x : X) → slice_get xs n ≡ Some x → test x ≡ false)
    → position test (xs ++ ys) ≡ option_map (λ w. length xs + w) (position test ys)
position_back test [] ys fails = here (position test ys)
position_back test (x ∷ xs) ys fails =
    position_next test x (xs ++ ys)
    ∙ (λ i. cond (fails 0 x refl i) (Some 0) (option_map suc (position_back test xs ys (λ n y found. fails (suc n) y found) i)))
    ∙ later (length xs) (position test ys)

-- a list whose elements change, where the test sees no difference
pub position_mapped : {X Y : Type 0} (test : Y → Bool) (f : X → Y) (other : X → Bool) → ((x : X) → test (f x) ≡ other x) → (xs : List X)
    → position test (map f xs) ≡ position other xs
position_mapped test f other same [] = refl
position_mapped test f other same (x ∷ xs) =
    position_next test (f x) (map f xs)
    ∙ (λ i. cond (same x i) (Some 0) (option_map suc (position_mapped test f other same xs i)))
    ∙ sym (position_next other x xs)
