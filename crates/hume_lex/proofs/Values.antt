-- What digits are worth.
use Rattle.std.proofs.Common.{◌≡◌, ℕ, ◌+◌, ◌-◌, ◌*◌, ◌<◌, ◌≤◌, List, [], ◌∷◌, length, get_or, drop, true, arith, add-one, drop-cons, refl}
use Rattle.std.specs.Prelude.{fold}
use Rattle.std.proofs.lemmas.Bool.{and_parts, leb-true}
use Rattle.hume_lex.specs.Spelling.{is_digit}

pub digit_bounds : (b : ℕ) → is_digit b ≡ true → (48 ≤ b) × (b ≤ 57)
digit_bounds b e = let p = and_parts _ _ e in (leb-true 48 b p.0, leb-true b 57 p.1)

-- the digits, after those that write n
abbrev pub value_after : ℕ → List ℕ → ℕ
value_after n digits = fold (λ n digit. n * 10 + (digit - 48)) n digits

-- more digits make it no less
pub value_after_ge : (n : ℕ) (bs : List ℕ) → n ≤ value_after n bs
value_after_ge n [] = omega arith
value_after_ge n (b ∷ bs) = omega (arith, value_after_ge (n * 10 + (b - 48)) bs)

-- one digit taken off
pub value_step : (n m i : ℕ) (bs : List ℕ) → i < length bs → m ≡ n * 10 + (get_or bs i 0 - 48) → value_after n (drop i bs) ≡ value_after m (drop (i + 1) bs)
value_step n m i bs h e = rw (drop-cons bs i 0, e, add-one)

pub value_large : (n i : ℕ) (bs : List ℕ) (whole : ℕ) → i < length bs → value_after n (drop i bs) ≡ whole → n * 10 + (get_or bs i 0 - 48) ≤ whole
value_large n i bs whole h e = let m = n * 10 + (get_or bs i 0 - 48) in let s = value_step n m i bs h refl in omega (arith, value_after_ge m (drop (i + 1) bs), s, e)

pub ruleset value_steps = (digit_bounds, value_step, value_large)
