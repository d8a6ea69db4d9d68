-- What is left of a number at a type is what is left of what is left of it at 64 bits.
use Rattle.std.proofs.Common.{◌≡◌, ℕ, zero, suc, ◌+◌, ◌-◌, ◌*◌, ◌/◌, ◌%◌, ◌^◌, ◌<◌, ◌≤◌, false, if◌then◌else◌, ℤ, pos, negsuc, neg_ℤ, ◌+ℤ◌, ◌-ℤ◌, ◌*ℤ◌, w64, refl, ap, sym, ◌∙◌, subst, arith, inl, inr, mul_assoc}
use lib.Signed.{mag, mag_rem}
use mir.Val.{of_z, to_z}
use Rattle.std.specs.Int.{int_wrap, int_wrapping_div}
use Rattle.std.specs.Int.RustNames.{unsigned_abs, int_lt, int_div, int_rem}
use Rattle.std.proofs.lemmas.Bool.{lt-ltb, le-ltb, cases_lt}
use Rattle.std.proofs.lemmas.Int.{int_rem_euclid_is, ints, of_z-to_z, wrapping_add-bits, wrapping_sub-bits, wrapping_mul-bits}
use Rattle.std.proofs.lemmas.Nat.{pow_pos, pow-add}
use Rattle.std.proofs.Math.Nat.{mod-lt, mod-eq_of_lt, pow-suc, div-le_self}
use Rattle.std.proofs.Math.Pow.{pow_mono, mod-mod-pow}
use Rattle.hume_base.specs.declared.types.Ty.{out-Ty}
use Rattle.hume_base.specs.Words.{int_of, word_of}
use Rattle.hume_model.specs.Operations.{low_bits, from_low, number_at}
use Rattle.box_code.specs.declared.instr.Scalar.{Scalar}
use Rattle.box_code.specs.declared.instr.Scalar.TheVariants as scalar
use Rattle.box_code.specs.Machine.{type_of}
use Rattle.box_machine.specs.inner.Layers.{layer_of}

-- a number is a natural one but for a multiple of 2 to the 64
behind : (z : ℤ) → (k : ℕ) × (m : ℕ) × (z +ℤ pos (k * 2 ^ 64) ≡ pos m)
behind (pos a) = (0, a, ap pos (let e : a + 0 * 2 ^ 64 ≡ a = omega arith in e))
behind (negsuc a) = (suc a, suc a * 2 ^ 64 - suc a, rw (le-ltb (suc a * 2 ^ 64) (suc a) (omega arith)) refl)

low_by : (bits : ℕ) → bits ≤ 64 → (z : ℤ) (k m : ℕ) → z +ℤ pos (k * 2 ^ 64) ≡ pos m → low_bits bits z ≡ pos (m % 2 ^ bits)
low_by bits few z k m is =
    let whole : 64 - bits + bits ≡ 64 = omega (arith, few) in
    let split : k * 2 ^ (64 - bits) * 2 ^ bits ≡ k * 2 ^ 64 =
    mul_assoc k (2 ^ (64 - bits)) (2 ^ bits) ∙ ap (λ n. k * n) (sym (pow-add 2 (64 - bits) bits) ∙ ap (λ n. 2 ^ n) whole) in
    int_rem_euclid_is z (pos (2 ^ bits)) (2 ^ bits) (k * 2 ^ (64 - bits)) m (pow_pos bits) refl (ap (λ n. z +ℤ pos n) split ∙ is)

-- so fewer bits are those of the 64
pub fewer : (bits : ℕ) → bits ≤ 64 → (z : ℤ) → low_bits bits z ≡ pos (unsigned_abs (low_bits 64 z) % 2 ^ bits)
fewer bits few z =
    let b = behind z in
    let whole : 64 - bits + bits ≡ 64 = omega (arith, few) in
    let long : unsigned_abs (low_bits 64 z) ≡ b.1 % 2 ^ 64 = ap unsigned_abs (low_by 64 (omega arith) z b.0 b.1 b.2) in
    let short : b.1 % 2 ^ 64 % 2 ^ bits ≡ b.1 % 2 ^ bits = ap (λ n. b.1 % 2 ^ n % 2 ^ bits) (sym whole) ∙ mod-mod-pow b.1 (64 - bits) bits in
    low_by bits few z b.0 b.1 b.2 ∙ ap pos (sym (ap (λ n. n % 2 ^ bits) long ∙ short))

taken_away : (m n : ℕ) → m < n → pos m -ℤ pos n ≡ negsuc (n - m - 1)
taken_away m zero less = absurd (omega arith)
taken_away m (suc k) less = rw (lt-ltb m (suc k) less) (let e : suc k - suc m ≡ suc k - m - 1 = omega arith in ap negsuc e)

-- the low bits as a number of either sign, where it is a negative one
pub high_extended : (bits low half : ℕ) → bits ≤ 64 → half ≡ 2 ^ (bits - 1) → low < 2 ^ bits → half ≤ low
    → (low - half + (2 ^ 64 - half)) % 2 ^ 64 ≡ word_of (from_low bits (pos low))
high_extended zero low half few is less high = absurd (omega (arith, is, less, high))
high_extended (suc b) low half few is less high =
    let same : suc b - 1 ≡ b = omega arith in
    let half_is : half ≡ 2 ^ b = is ∙ ap (λ n. 2 ^ n) same in
    let double : 2 ^ suc b ≡ half + half = pow-suc 2 b ∙ (let e : 2 ^ b * 2 ≡ half + half = omega (arith, half_is) in e) in
    let small : 2 ^ b ≤ 2 ^ 63 = pow_mono (let l : b ≤ 63 = omega (arith, few) in l) in
    let less_is : low < half + half = subst (λ n. low < n) double less in
    let top : half ≤ 2 ^ 63 = subst (λ n. n ≤ 2 ^ 63) (sym half_is) small in
    let left : (low - half + (2 ^ 64 - half)) % 2 ^ 64 ≡ 2 ^ 64 - (half + half - low) =
    mod-eq_of_lt (let e : low - half + (2 ^ 64 - half) < 2 ^ 64 = omega (arith, less_is, top, high) in e)
    ∙ (let e : low - half + (2 ^ 64 - half) ≡ 2 ^ 64 - (half + half - low) = omega (arith, less_is, top, high) in e) in
    let not_low : int_lt (pos low) (pos (2 ^ (suc b - 1))) ≡ false = le-ltb low (2 ^ (suc b - 1)) (omega (arith, is, high)) in
    let away : pos low -ℤ pos (2 ^ suc b) ≡ negsuc (2 ^ suc b - low - 1) = taken_away low (2 ^ suc b) less in
    let value : from_low (suc b) (pos low) ≡ negsuc (2 ^ suc b - low - 1) = ap (λ t. if t then pos low else pos low -ℤ pos (2 ^ suc b)) not_low ∙ away in
    let word : 2 ^ 64 - suc (2 ^ suc b - low - 1) ≡ 2 ^ 64 - (half + half - low) = omega (arith, double, less_is) in
    left ∙ sym word ∙ sym (ap word_of value)

-- a number that is as large as a word at most stands for itself
own_word : (z : ℤ) → mag z < 2 ^ 64 → of_z w64 z ≡ unsigned_abs (low_bits 64 z)
own_word (pos n) small = sym (mod-eq_of_lt small)
own_word (negsuc n) small = let e : n % 2 ^ 64 ≡ n = mod-eq_of_lt small in let f : 2 ^ 64 - suc n ≡ 2 ^ 64 - 1 - n % 2 ^ 64 = omega (arith, e) in f

own_small : (z : ℤ) → mag z < 2 ^ 64 → of_z w64 z < 2 ^ 64
own_small (pos n) small = small
own_small (negsuc n) small = omega (arith, small)

int_small : (word : ℕ) → word < 2 ^ 64 → mag (int_of word) < 2 ^ 64
int_small word less = elim (cases_lt word (2 ^ 63)) [
  | inl low ↦ rw (lt-ltb word (2 ^ 63) low) less
  | inr high ↦ rw (le-ltb word (2 ^ 63) high) (omega arith)
]

mag_negated : (n : ℕ) → mag (neg_ℤ (pos n)) ≤ n
mag_negated zero = omega arith
mag_negated (suc n) = omega arith

mag_quotient : (a d : ℤ) → mag (int_div a d) ≤ suc (mag a)
mag_quotient (pos a) (pos b) = let e : a / b ≤ a = div-le_self a b in omega (arith, e)
mag_quotient (pos a) (negsuc b) = let e : a / suc b ≤ a = div-le_self a (suc b) in let f = mag_negated (a / suc b) in omega (arith, e, f)
mag_quotient (negsuc a) (pos b) = let e : suc a / b ≤ suc a = div-le_self (suc a) b in let f = mag_negated (suc a / b) in omega (arith, e, f)
mag_quotient (negsuc a) (negsuc b) = let e : suc a / suc b ≤ suc a = div-le_self (suc a) (suc b) in omega (arith, e)

int_lower : (word : ℕ) → word < 2 ^ 64 → mag (int_of word) < 2 ^ 63
int_lower word less = elim (cases_lt word (2 ^ 63)) [
  | inl low ↦ rw (lt-ltb word (2 ^ 63) low) low
  | inr high ↦ rw (le-ltb word (2 ^ 63) high) (omega arith)
]

pub int_quotient : (left right : ℕ) → left < 2 ^ 64
    → word_of (to_z w64 (of_z w64 (int_wrapping_div w64 (int_of left) (int_of right)))) ≡ unsigned_abs (low_bits 64 (int_div (int_of left) (int_of right)))
int_quotient left right less =
    let q : ℤ = int_div (int_of left) (int_of right) in
    let small : mag q < 2 ^ 64 = omega (arith, mag_quotient (int_of left) (int_of right), int_lower left less) in
    let back : of_z w64 (to_z w64 (of_z w64 q)) ≡ of_z w64 q = of_z-to_z w64 (of_z w64 q) (own_small q small) in
    ap (λ n. of_z w64 (to_z w64 n)) back ∙ back ∙ own_word q small

pub int_remainder : (left right : ℕ) → left < 2 ^ 64
    → word_of (to_z w64 (of_z w64 (int_rem (int_of left) (int_of right)))) ≡ unsigned_abs (low_bits 64 (int_rem (int_of left) (int_of right)))
int_remainder left right less =
    let q : ℤ = int_rem (int_of left) (int_of right) in
    let small : mag q < 2 ^ 64 = omega (arith, mag_rem (int_of left) (int_of right), int_lower left less) in
    of_z-to_z w64 (of_z w64 q) (own_small q small) ∙ own_word q small

pub nat_own : (n : ℕ) → n < 2 ^ 64 → n ≡ unsigned_abs (low_bits 64 (pos n))
nat_own n small = sym (mod-eq_of_lt small)

-- the words of a sum, a difference and a product

remains : (z : ℤ) → unsigned_abs (low_bits 64 z) < 2 ^ 64
remains (pos a) = mod-lt a (pow_pos 64)
remains (negsuc a) = omega arith

same_word : (a b : ℕ) → a < 2 ^ 64 → b < 2 ^ 64 → int_of a ≡ int_of b → a ≡ b
same_word a b la lb e = sym (of_z-to_z w64 a la) ∙ ap (of_z w64) e ∙ of_z-to_z w64 b lb

unwrapped : (word : ℕ) (z : ℤ) → word < 2 ^ 64 → int_of word ≡ int_wrap w64 z → word ≡ unsigned_abs (low_bits 64 z)
unfolding int_wrap
unwrapped word z less is = same_word word (unsigned_abs (low_bits 64 z)) less (remains z) is

-- at a type that isn't `int`
nat_difference : (left right : ℕ) → left < 2 ^ 64 → right < 2 ^ 64 → (left + (2 ^ 64 - right)) % 2 ^ 64 ≡ unsigned_abs (low_bits 64 (pos left -ℤ pos right))
nat_difference left right l r =
    let up : (pos left -ℤ pos right) +ℤ pos (1 * 2 ^ 64) ≡ pos (left + (2 ^ 64 - right)) = omega (arith, ints) in
    sym (ap unsigned_abs (int_rem_euclid_is (pos left -ℤ pos right) (pos (2 ^ 64)) (2 ^ 64) 1 (left + (2 ^ 64 - right)) (pow_pos 64) refl up))

pub low_sum : (ty : Scalar) (left right : ℕ) → left < 2 ^ 64 → right < 2 ^ 64
    → (left + right) % 2 ^ 64 ≡ unsigned_abs (low_bits 64 (number_at (layer_of ty) left +ℤ number_at (layer_of ty) right))
low_sum scalar.Bool left right l r = refl
low_sum scalar.Char left right l r = refl
low_sum (scalar.Int bits) left right l r = unwrapped ((left + right) % 2 ^ 64) (int_of left +ℤ int_of right) (mod-lt (left + right) (pow_pos 64))
    (wrapping_add-bits w64 left right l r)
low_sum (scalar.Nat bits) left right l r = refl

pub low_difference : (ty : Scalar) (left right : ℕ) → left < 2 ^ 64 → right < 2 ^ 64
    → (left + (2 ^ 64 - right)) % 2 ^ 64 ≡ unsigned_abs (low_bits 64 (number_at (layer_of ty) left -ℤ number_at (layer_of ty) right))
low_difference scalar.Bool left right l r = nat_difference left right l r
low_difference scalar.Char left right l r = nat_difference left right l r
low_difference (scalar.Int bits) left right l r =
    unwrapped ((left + (2 ^ 64 - right)) % 2 ^ 64) (int_of left -ℤ int_of right) (mod-lt (left + (2 ^ 64 - right)) (pow_pos 64))
    (wrapping_sub-bits w64 left right l r)
low_difference (scalar.Nat bits) left right l r = nat_difference left right l r

pub low_product : (ty : Scalar) (left right : ℕ) → left < 2 ^ 64 → right < 2 ^ 64
    → (left * right) % 2 ^ 64 ≡ unsigned_abs (low_bits 64 (number_at (layer_of ty) left *ℤ number_at (layer_of ty) right))
low_product scalar.Bool left right l r = refl
low_product scalar.Char left right l r = refl
low_product (scalar.Int bits) left right l r = unwrapped ((left * right) % 2 ^ 64) (int_of left *ℤ int_of right) (mod-lt (left * right) (pow_pos 64))
    (wrapping_mul-bits w64 left right l r)
low_product (scalar.Nat bits) left right l r = refl

from_zero : (z : ℤ) → neg_ℤ z ≡ pos 0 -ℤ z
from_zero (pos zero) = refl
from_zero (pos (suc n)) = sym (taken_away 0 (suc n) (omega arith) ∙ ap negsuc (let e : suc n - 0 - 1 ≡ n = omega arith in e))
from_zero (negsuc n) = omega (arith, ints)

zero_at : (ty : Scalar) → number_at (layer_of ty) 0 ≡ pos 0
zero_at scalar.Bool = refl
zero_at scalar.Char = refl
zero_at (scalar.Int bits) = refl
zero_at (scalar.Nat bits) = refl

pub low_negated : (ty : Scalar) (word : ℕ) → word < 2 ^ 64 → (0 + (2 ^ 64 - word)) % 2 ^ 64 ≡ unsigned_abs (low_bits 64 (neg_ℤ (number_at (layer_of ty) word)))
low_negated ty word less =
    low_difference ty 0 word (omega arith) less ∙ ap (λ z. unsigned_abs (low_bits 64 (z -ℤ number_at (layer_of ty) word))) (zero_at ty)
    ∙ ap (λ z. unsigned_abs (low_bits 64 z)) (sym (from_zero (number_at (layer_of ty) word)))

-- a word that is read as a number is written back
pub read_back : (word : ℕ) (number : ℤ) → word < 2 ^ 64 → number ≡ int_of word → to_z w64 (of_z w64 number) ≡ int_of word
read_back word number less is = ap (λ z. to_z w64 (of_z w64 z)) is ∙ ap (to_z w64) (of_z-to_z w64 word less)

pub out_type : (ty : Scalar) → out-Ty (type_of ty) ≡ layer_of ty
unfolding out-Ty denote.Hole.Carrier.out
out_type scalar.Bool = refl
out_type scalar.Char = refl
out_type (scalar.Int bits) = refl
out_type (scalar.Nat bits) = refl
