-- The bytes at the front that pass a test, and those behind them.
use Rattle.std.proofs.Common.{◌≡◌, ℕ, ◌+◌, ◌-◌, ◌*◌, ◌^◌, ◌≤◌, nat_le, inl, inr, Bool, true, false, List, [], ◌∷◌, ◌++◌, length, length-append, take, refl, ap, sym, ◌∙◌, arith}
use Rattle.std.proofs.Math.Seq.{take-append_seam}
use Rattle.std.proofs.lemmas.Bool.{and_parts, leb-true, cases_lt}
use Rattle.std.proofs.lemmas.Str.{digit_value_digit}
use Rattle.std.specs.Char.{digit_value}
use Rattle.std.specs.Str.Parse.{digits_value_after}
use Rattle.hume_text.specs.Read.{is_digit, front, behind}
use Rattle.hume_text.specs.inner.Tokens.{capped}

pub front_behind : (test : ℕ → Bool) (bytes : List ℕ) → front test bytes ++ behind test bytes ≡ bytes
front_behind test [] = refl
front_behind test (byte ∷ bytes) = go (test byte) refl (front_behind test bytes)
  where
    go : (b : Bool) → test byte ≡ b → front test bytes ++ behind test bytes ≡ bytes → front test (byte ∷ bytes) ++ behind test (byte ∷ bytes) ≡ byte ∷ bytes
    go true e h = rw e (ap (λ bs. byte ∷ bs) h)
    go false e h = rw e refl

pub behind_short : (test : ℕ → Bool) (bytes : List ℕ) → length (behind test bytes) ≤ length bytes
behind_short test [] = omega arith
behind_short test (byte ∷ bytes) = go (test byte) refl (behind_short test bytes)
  where
    go : (b : Bool) → test byte ≡ b → length (behind test bytes) ≤ length bytes → length (behind test (byte ∷ bytes)) ≤ length (byte ∷ bytes)
    go true e h = rw e (omega arith)
    go false e h = rw e (omega arith)

pub take_front : (xs ys : List ℕ) → take (length (xs ++ ys) - length ys) (xs ++ ys) ≡ xs
take_front xs ys = rw (length-append xs ys) (rw (let same : length xs + length ys - length ys ≡ length xs = omega arith in same) (take-append_seam xs ys))

pub front_taken : (test : ℕ → Bool) (byte : ℕ) (bytes : List ℕ) → take (length (byte ∷ bytes) - length (behind test bytes)) (byte ∷ bytes) ≡ byte ∷ front test bytes
front_taken test byte bytes =
    ap (λ bs. take (length (byte ∷ bs) - length (behind test bytes)) (byte ∷ bs)) (sym (front_behind test bytes)) ∙ take_front (byte ∷ front test bytes) (behind test bytes)

-- digits

pub digit_range : (byte : ℕ) → is_digit byte ≡ true → (48 ≤ byte) × (byte ≤ 57)
digit_range byte p = let ps = and_parts (nat_le 48 byte) (nat_le byte 57) p in (leb-true 48 byte ps.0, leb-true byte 57 ps.1)

after_least : (n : ℕ) (ds : List ℕ) → n ≤ digits_value_after 10 n ds
after_least n [] = omega arith
after_least n (d ∷ ds) = let more : n * 10 + digit_value d ≤ digits_value_after 10 (n * 10 + digit_value d) ds = after_least (n * 10 + digit_value d) ds in omega (arith, more)

capped_after : (m : ℕ) (ds : List ℕ) → capped (digits_value_after 10 (capped m) ds) ≡ capped (digits_value_after 10 m ds)
capped_after m ds = elim (cases_lt m (2 ^ 64)) [
  | inl small ↦ let same : capped m ≡ m = omega arith in ap (λ n. capped (digits_value_after 10 n ds)) same
  | inr large ↦ let top : capped m ≡ 2 ^ 64 = omega arith in omega (arith, top, after_least (capped m) ds, after_least m ds)
]

-- one digit more
pub digits_step : (value byte : ℕ) (others : List ℕ) → is_digit byte ≡ true
    → capped (digits_value_after 10 (capped (value * 10 + (byte - 48))) (front is_digit others)) ≡ capped (digits_value_after 10 value (front is_digit (byte ∷ others)))
digits_step value byte others p =
    let range = digit_range byte p in
    let worth : digit_value byte ≡ byte - 48 = omega (arith, digit_value_digit byte range) in
    capped_after (value * 10 + (byte - 48)) (front is_digit others)
    ∙ rw p (ap (λ d. capped (digits_value_after 10 (value * 10 + d) (front is_digit others))) (sym worth))

pub behind_digit : (byte : ℕ) (others : List ℕ) → is_digit byte ≡ true → behind is_digit (byte ∷ others) ≡ behind is_digit others
behind_digit byte others p = rw p refl
