-- Words of Hume and the numbers that they stand for.
use Rattle.std.proofs.Common.{◌≡◌, ℕ, ◌-◌, ◌^◌, ◌<◌, ◌≤◌, ◌==◌, min, nat_lt, Bool, true, false, ◌&&◌, ℤ, pos, negsuc, SFits, w64}
use Rattle.std.proofs.Common.{refl, ap, sym, ◌∙◌, arith, to_z-of_z, of_z, eq-eqb}
use Rattle.std.specs.Int.{cast_unsigned}
use Rattle.std.specs.Int.RustNames.{int_le, unsigned_abs}
use Rattle.std.proofs.lemmas.Int.{of_z-to_z}
use Rattle.std.proofs.lemmas.Bool.{eqb-true, and_parts, and_from, lt-ltb, ltb-true}
use Rattle.std.proofs.lemmas.Bool.Decides.{nat_tests}
use Rattle.std.proofs.Math.Pow.{pow_mono}
use borrow.Author.Differences.{fits_in, le-true, same_in}
use Rattle.hume_base.specs.declared.types.Ty.{Ty}
use Rattle.hume_base.specs.declared.types.Ty.TheOpen.{Ty-F}
use Rattle.hume_base.specs.Values.{is_int_of}
use Rattle.hume_base.specs.Words.{int_of, word_of}
use Rattle.hume_model.specs.Operations.{number_at, word_at, wrapped, low_bits}
use Rattle.c_arithmetic.specs.Widths.{numbers_with}
use Rattle.c_meaning.specs.Numbers.{Signed, Unsigned}
use Rattle.c_meaning.proofs.Ranges.{InRange, in_range, is_held}
use Rattle.c_numbers.specs.Shown.{hume_type, is_word}
use Rattle.c_numbers.proofs.Congruences.{exact, kept, kept_range, le-yes}

abbrev pub hume : Bool → ℕ → Ty-F Ty
hume signed size = hume_type (numbers_with signed size)

-- the number of a word of the type
pub word_range : (signed : Bool) (size word : ℕ) → is_word (numbers_with signed size) word ≡ true
    → InRange (exact signed size) (number_at (hume signed size) word)
word_range true size word e = in_range (Signed size) (int_of word) (and_parts (nat_lt word (2 ^ 64)) (is_int_of size (int_of word)) e).1
word_range false size word e = let h = ltb-true word (2 ^ size) e in record { above = omega arith; below = omega (arith, h) }

few : (size : ℕ) → size ≤ 64 → min size 64 ≡ size
few size most = omega (arith, most)

natural : (size : ℕ) (y : ℤ) → InRange (Unsigned size) y → pos (unsigned_abs y) ≡ y
natural size (pos m) w = refl
natural size (negsuc m) w = absurd (let h = w.above in omega (arith, h))

fits : (size : ℕ) (z : ℤ) → size ≤ 64 → InRange (Signed size) z → SFits w64 z
fits size z most w =
    let p : 2 ^ (size - 1) ≤ 2 ^ 63 = pow_mono (let l : size - 1 ≤ 63 = omega (arith, most) in l) in
    let a = w.above in
    let b = w.below in
    fits_in w64 z (omega (arith, p, a, b))

-- the number of the word of a number
pub word_number : (signed : Bool) (size : ℕ) (z : ℤ) → 1 ≤ size → size ≤ 64 → number_at (hume signed size) (word_at (hume signed size) z) ≡ kept signed size z
word_number true size z some most =
    rw (few size most) (to_z-of_z {w = w64} {z = wrapped size z} (fits size (wrapped size z) most (kept_range true size z some)))
word_number false size z some most =
    rw (few size most) (natural size (low_bits size z) (kept_range false size z some))

-- the word of a number is one of the type
pub word_is : (signed : Bool) (size : ℕ) (z : ℤ) → 1 ≤ size → size ≤ 64 → is_word (numbers_with signed size) (word_at (hume signed size) z) ≡ true
word_is true size z some most =
    let w = kept_range true size z some in
    let number : int_of (word_of (wrapped size z)) ≡ wrapped size z = to_z-of_z {w = w64} {z = wrapped size z} (fits size (wrapped size z) most w) in
    rw (few size most) (and_from (nat_lt (word_of (wrapped size z)) (2 ^ 64)) (is_int_of size (int_of (word_of (wrapped size z))))
    (lt-ltb (word_of (wrapped size z)) (2 ^ 64) (small (wrapped size z) w))
    (ap (is_int_of size) number ∙ is_held (Signed size) (wrapped size z) w))
  where
    small : (y : ℤ) → InRange (Signed size) y → of_z w64 y < 2 ^ 64
    small (pos m) w =
        let p : 2 ^ (size - 1) ≤ 2 ^ 63 = pow_mono (let l : size - 1 ≤ 63 = omega (arith, most) in l) in
        let b = w.below in omega (arith, p, b)
    small (negsuc m) w =
        let p : 2 ^ (size - 1) ≤ 2 ^ 63 = pow_mono (let l : size - 1 ≤ 63 = omega (arith, most) in l) in
        let a = w.above in omega (arith, p, a)
word_is false size z some most =
    rw (few size most) (lt-ltb (unsigned_abs (low_bits size z)) (2 ^ size) (small (low_bits size z) (kept_range false size z some)))
  where
    small : (y : ℤ) → InRange (Unsigned size) y → unsigned_abs y < 2 ^ size
    small (pos m) w = let b = w.below in omega (arith, b)
    small (negsuc m) w = absurd (let a = w.above in omega (arith, a))

-- ---- equal words are those of equal numbers
abbrev pub equal_numbers : ℤ → ℤ → Bool
equal_numbers x y = int_le x y && int_le y x

equal_naturals : (m n : ℕ) → equal_numbers (pos m) (pos n) ≡ (m == n)
equal_naturals m n = grind (arith, nat_tests)

equal_is : (a b : ℤ) → a ≡ b → equal_numbers a b ≡ true
equal_is a b e = rw (e, le-yes b b (omega arith)) refl

equal_tells : (a b : ℤ) → equal_numbers a b ≡ true → a ≡ b
equal_tells a b h =
    let hs = and_parts (int_le a b) (int_le b a) h in
    let f = le-true a b hs.0 in
    let g = le-true b a hs.1 in
    same_in a b (omega (arith, f, g))

pub same_words : (l r : ℕ) → l < 2 ^ 64 → r < 2 ^ 64 → int_of l ≡ int_of r → l ≡ r
same_words l r a b e = sym (of_z-to_z w64 l a) ∙ ap (cast_unsigned w64) e ∙ of_z-to_z w64 r b

by_tests : (l r : ℕ) → l < 2 ^ 64 → r < 2 ^ 64 → (t u : Bool) → equal_numbers (int_of l) (int_of r) ≡ t → (l == r) ≡ u → t ≡ u
by_tests l r a b true true e f = refl
by_tests l r a b false false e f = refl
by_tests l r a b true false e f = let same = same_words l r a b (equal_tells (int_of l) (int_of r) e) in sym (eq-eqb l r same) ∙ f
by_tests l r a b false true e f = sym e ∙ equal_is (int_of l) (int_of r) (ap int_of (eqb-true l r f))

pub words_tell : (signed : Bool) (size l r : ℕ) → is_word (numbers_with signed size) l ≡ true → is_word (numbers_with signed size) r ≡ true
    → equal_numbers (number_at (hume signed size) l) (number_at (hume signed size) r) ≡ (l == r)
words_tell true size l r p q =
    by_tests l r (ltb-true l (2 ^ 64) (and_parts (nat_lt l (2 ^ 64)) (is_int_of size (int_of l)) p).0)
    (ltb-true r (2 ^ 64) (and_parts (nat_lt r (2 ^ 64)) (is_int_of size (int_of r)) q).0) (equal_numbers (int_of l) (int_of r)) (l == r) refl refl
words_tell false size l r p q = equal_naturals l r
