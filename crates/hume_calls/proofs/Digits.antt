-- Digits: the test of them all, and the number that they write.
use Rattle.std.proofs.Common.{◌≡◌, ℕ, ◌+◌, ◌-◌, ◌*◌, ◌^◌, ◌<◌, ◌≤◌, List, length, get_or, drop, true, suc, refl, sym, ap, ◌∙◌, arith, add-one, drop-cons}
use Rattle.std.specs.Char.{is_ascii_digit, digit_value}
use Rattle.std.specs.Str.{all_ascii_digits}
use Rattle.std.specs.Str.Parse.{digits_value_after}
use Rattle.std.proofs.Math.Nat.{pow-suc, pow-le-pow_right}
use Rattle.std.proofs.lemmas.Bool.{and_parts, leb-true}
use Rattle.std.proofs.lemmas.List.Recursion.{and_at}
use Rattle.std.proofs.lemmas.Str.{digit_value_digit}
use Rattle.hume_calls.specs.Words.{is_number}

pub digit_bounds : (bs : List ℕ) (i : ℕ) → i < length bs → all_ascii_digits bs ≡ true → (48 ≤ get_or bs i 0) × (get_or bs i 0 ≤ 57)
digit_bounds bs i h all =
    let p = and_parts _ _ (and_at all_ascii_digits is_ascii_digit refl (λ _ _. refl) bs i 0 h all) in
    (leb-true 48 _ p.0, leb-true _ 57 p.1)

digit_is : (c : ℕ) → 48 ≤ c → c ≤ 57 → digit_value c ≡ c - 48
digit_is c low high = omega (arith, digit_value_digit c (low, high))

-- one digit taken off
pub value_step : (n m i : ℕ) (bs : List ℕ) → i < length bs → all_ascii_digits bs ≡ true → m ≡ n * 10 + (get_or bs i 0 - 48)
    → digits_value_after 10 n (drop i bs) ≡ digits_value_after 10 m (drop (i + 1) bs)
value_step n m i bs h all e =
    let b = digit_bounds bs i h all in
    let same : n * 10 + digit_value (get_or bs i 0) ≡ m = ap (λ d. n * 10 + d) (digit_is _ b.0 b.1) ∙ sym e in
    rw (drop-cons bs i 0, add-one) (ap (λ v. digits_value_after 10 v (drop (suc i) bs)) same)

-- so many digits write a number below that power of ten
pub below_step : (n d i : ℕ) → n < 10 ^ i → d ≤ 57 → n * 10 + (d - 48) < 10 ^ (i + 1)
below_step n d i h small = rw (add-one, pow-suc) (omega arith)

pub nine_digits_fit : (n d i : ℕ) → n < 10 ^ i → i < 9 → d ≤ 57 → n * 10 + (d - 48) < 2 ^ 32
nine_digits_fit n d i h few small =
    let top : 10 ^ i ≤ 10 ^ 8 = pow-le-pow_right {n = 10} (omega arith) {i = i} {j = 8} (omega arith) in omega arith

pub number_parts : (bs : List ℕ) → is_number bs ≡ true → (1 ≤ length bs) × (length bs ≤ 9) × (all_ascii_digits bs ≡ true)
number_parts bs h =
    let p = and_parts _ _ h in
    let q = and_parts _ _ p.0 in
    (leb-true _ _ q.0, leb-true _ _ q.1, p.1)

pub ruleset digit_steps = (digit_bounds, value_step, below_step, nine_digits_fit, number_parts)
