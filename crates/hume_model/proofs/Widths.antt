-- A number that is wrapped to the bits of a type is one of the type.
use Rattle.std.proofs.Common.{◌≡◌, ℕ, zero, suc, ◌+◌, ◌-◌, ◌%◌, ◌^◌, ◌<◌, ◌≤◌, nat_lt, nat_le, min, ◌&&◌, Bool, true, ℤ, pos, negsuc, neg_ℤ, ◌-ℤ◌, SFits, w64, to_z-of_z, of_z, refl, ap, sym, ◌∙◌, subst, arith, inl, inr, length}
use Rattle.std.specs.Int.RustNames.{int_lt, int_le, unsigned_abs}
use Rattle.std.proofs.lemmas.Bool.{and_parts, lt-ltb, le-ltb, le-leb, leb-true, cases_lt}
use Rattle.std.proofs.lemmas.Nat.{pow_pos}
use Rattle.std.proofs.Math.Nat.{mod-lt, pow-suc}
use Rattle.std.proofs.Math.Pow.{pow_mono}
use Rattle.hume_base.specs.declared.types.Ty.{Ty, out-Ty, roll-Ty, roll-out-Ty, map-Ty, fold-roll-Ty}
use Rattle.hume_base.specs.declared.types.Ty.TheOpen.{Ty-F}
use Rattle.hume_base.specs.declared.types.Types.{Types}
use Rattle.hume_base.specs.declared.types.Value.{Value}
use Rattle.hume_base.specs.declared.types.Value.TheVariants as value
use Rattle.hume_base.specs.Words.{int_of, word_of}
use Rattle.hume_base.specs.Values.{is_value, is_value_with, value_step, is_named_value, is_word_of, is_int_word}
use Rattle.hume_model.specs.Operations.{word_at, low_bits, from_low, wrapped}
use Rattle.hume_model.specs.Typing.{is_number_type, is_number_layer}
use Rattle.hume_model.proofs.Layers.{out-word}
use Rattle.hume_model.proofs.PatternTypes.{both_true}

-- the low bits are a number from 0 on, and below 2 to the bits
low_form : (bits : ℕ) (z : ℤ) → (m : ℕ) × (low_bits bits z ≡ pos m) × (m < 2 ^ bits)
low_form bits (pos a) = (a % 2 ^ bits, refl, mod-lt a (pow_pos bits))
low_form bits (negsuc a) = (2 ^ bits - 1 - a % 2 ^ bits, refl, (let p : zero < 2 ^ bits = pow_pos bits in omega arith))

-- a number of the width, as it stands in 64 bits
record IsOf (half : ℕ) (z : ℤ) : Type 0 where
  fits : SFits w64 z
  above : int_le (neg_ℤ (pos half)) z ≡ true
  below : int_lt z (pos half) ≡ true
  word : of_z w64 z < 2 ^ 64

not_negative : (half m : ℕ) → m < half → half ≤ 2 ^ 63 → zero < half → IsOf half (pos m)
not_negative zero m less small some = absurd (omega arith)
not_negative (suc k) m less small some = record {
  fits = record { sfits = (let f : m < 2 ^ 63 = omega arith in f) };
  above = refl;
  below = lt-ltb m (suc k) less;
  word = omega arith;
}

negative : (half d : ℕ) → d < half → half ≤ 2 ^ 63 → IsOf half (negsuc d)
negative zero d less small = absurd (omega arith)
negative (suc k) d less small = record {
  fits = record { sfits = (let f : d < 2 ^ 63 = omega arith in f) };
  above = le-leb d k (omega arith);
  below = refl;
  word = omega arith;
}

-- taking away more leaves a negative number
taken_away : (m n : ℕ) → m < n → pos m -ℤ pos n ≡ negsuc (n - m - 1)
taken_away m zero less = absurd (omega arith)
taken_away m (suc k) less = rw (lt-ltb m (suc k) less) (let e : suc k - suc m ≡ suc k - m - 1 = omega arith in ap negsuc e)

from_low_of : (half bits m : ℕ) → 2 ^ (bits - 1) ≡ half → 2 ^ bits ≡ half + half → zero < half → half ≤ 2 ^ 63 → m < 2 ^ bits → IsOf half (from_low bits (pos m))
from_low_of half bits m is_half is_double some small less = elim (cases_lt m half) [
  | inl low ↦ rw (is_half, lt-ltb m half low) (not_negative half m low small some)
  | inr high ↦ rw (is_half, le-ltb m half high, taken_away m (2 ^ bits) less, is_double) (negative half (half + half - m - 1) (omega arith) small)
]

wrapped_of : (bits : ℕ) (z : ℤ) → 1 ≤ bits → bits ≤ 64 → IsOf (2 ^ (bits - 1)) (wrapped bits z)
wrapped_of zero z some few = absurd (omega arith)
wrapped_of (suc b) z some few =
    let low = low_form (suc b) z in
    let same : suc b - 1 ≡ b = omega arith in
    let small : 2 ^ b ≤ 2 ^ 63 = pow_mono (let l : b ≤ 63 = omega arith in l) in
    let double : 2 ^ suc b ≡ 2 ^ b + 2 ^ b = pow-suc 2 b ∙ omega arith in
    subst (λ h. IsOf h (wrapped (suc b) z)) (ap (λ k. 2 ^ k) (sym same))
    (subst (λ l. IsOf (2 ^ b) (from_low (suc b) l)) (sym low.1)
    (from_low_of (2 ^ b) (suc b) low.0 (ap (λ k. 2 ^ k) same) double (pow_pos b) small low.2))

int_word : (bits : ℕ) (z : ℤ) → IsOf (2 ^ (bits - 1)) z → is_int_word bits (word_of z) ≡ true
int_word bits z is =
    let back : int_of (word_of z) ≡ z = to_z-of_z {w = w64} {z = z} is.fits in
    both_true _ _ (lt-ltb (word_of z) (2 ^ 64) is.word) (rw back (both_true _ _ is.above is.below))

least : (bits : ℕ) → bits ≤ 64 → min bits 64 ≡ bits
least bits few = omega arith

in_width : (bits : ℕ) → (nat_le 1 bits && nat_le bits 64) ≡ true → (1 ≤ bits) × (bits ≤ 64)
in_width bits h = let hs = and_parts _ _ h in (leb-true 1 bits hs.0, leb-true bits 64 hs.1)

module _ (named : ℕ → Value → Bool) where
  layer_value : (x : Ty-F Ty) → is_number_layer x ≡ true → (z : ℤ)
      → value_step named (map-Ty Ty (Value → Bool) (is_value_with named) x) (value.Word (word_at x z)) ≡ true
  layer_value Ty-F.Bool num z = cc
  layer_value Ty-F.Char num z = cc
  layer_value (Ty-F.Int bits) num z =
      let width = in_width bits num in
      ap (is_word_of (is_int_word bits)) (out-word (word_of (wrapped (min bits 64) z)))
      ∙ rw (least bits width.1) (int_word bits (wrapped bits z) (wrapped_of bits z width.0 width.1))
  layer_value (Ty-F.Nat bits) num z =
      let width = in_width bits num in
      let low = low_form bits z in
      ap (is_word_of (λ word. nat_lt word (2 ^ bits))) (out-word (unsigned_abs (low_bits (min bits 64) z)))
      ∙ rw (least bits width.1, low.1) (lt-ltb low.0 (2 ^ bits) low.2)
  layer_value (Ty-F.Tuple ts) num z = cc
  layer_value (Ty-F.Vector count t) num z = cc
  layer_value (Ty-F.Named k) num z = cc

  rolled_value : (x : Ty-F Ty) → is_number_layer x ≡ true → (z : ℤ) → is_value_with named (roll-Ty x) (value.Word (word_at x z)) ≡ true
  rolled_value x num z = ap (λ (t : Value → Bool). t (value.Word (word_at x z))) (fold-roll-Ty (Value → Bool) (value_step named) x) ∙ layer_value x num z

pub number-value : (types : Types) (t : Ty) → is_number_type t ≡ true → (number : ℤ) → is_value types t (value.Word (word_at (out-Ty t) number)) ≡ true
number-value types t num number =
    subst (λ u. is_value types u (value.Word (word_at (out-Ty t) number)) ≡ true) (roll-out-Ty t)
    (rolled_value (is_named_value types (length types.sums)) (out-Ty t) num number)
