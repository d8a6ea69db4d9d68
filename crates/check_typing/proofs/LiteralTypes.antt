-- A literal that isn't out of the range of its type is a value of it.
use Rattle.std.proofs.Common.{◌≡◌, ℕ, zero, suc, ◌-◌, ◌^◌, ◌<◌, ◌≤◌, nat_lt, nat_le, not, ◌&&◌, Bool, true, false, ℤ, pos, negsuc, neg_ℤ, SFits, w64, to_z-of_z, of_z, refl, ap, sym, ◌∙◌, subst, arith, length}
use Rattle.std.specs.Int.RustNames.{int_lt, int_le}
use Rattle.std.proofs.lemmas.Bool.{false≢true, and_parts, lt-ltb, ltb-true, leb-true}
use Rattle.std.proofs.Math.Pow.{pow_mono}
use Rattle.hume_base.specs.declared.types.Ty.{Ty, out-Ty, roll-Ty, roll-out-Ty, map-Ty, fold-roll-Ty, Bool as BoolTy, Char as CharTy}
use Rattle.hume_base.specs.declared.types.Ty.TheVariants.{rolls-Char}
use Rattle.hume_base.specs.declared.types.Ty.TheOpen.{Ty-F}
use Rattle.hume_base.specs.declared.types.Types.{Types}
use Rattle.hume_base.specs.declared.types.Value.{Value}
use Rattle.hume_base.specs.declared.types.Value.TheVariants as value
use Rattle.hume_base.specs.Words.{int_of, word_of}
use Rattle.hume_base.specs.Values.{is_value, is_value_with, value_step, is_named_value, is_word_of, is_int_word, is_int_of, is_char_word}
use Rattle.hume_model.specs.Typing.{is_number_type, is_number_layer}
use Rattle.hume_model.proofs.Layers.{out-word, bool-value}
use Rattle.check_typing.specs.Patterns.{literal_number, literal_word, is_number_of, is_too_wide, is_no_char, word_of_truth}

both_true : (a b : Bool) → a ≡ true → b ≡ true → (a && b) ≡ true
both_true a b p q = rw (p, q) refl

pub unnegated : (b : Bool) → not b ≡ false → b ≡ true
unnegated true h = refl
unnegated false h = absurd (false≢true (sym h))

-- a number that stands in a word
record IsWord (z : ℤ) : Type 0 where
  fits : SFits w64 z
  word : of_z w64 z < 2 ^ 64

not_negative : (half m : ℕ) → m < half → half ≤ 2 ^ 63 → IsWord (pos m)
not_negative half m less small = record {
  fits = record { sfits = (let f : m < 2 ^ 63 = omega arith in f) };
  word = omega arith;
}

negative : (half d : ℕ) → int_le (neg_ℤ (pos half)) (negsuc d) ≡ true → half ≤ 2 ^ 63 → IsWord (negsuc d)
negative zero d h small = absurd (false≢true h)
negative (suc k) d h small = let less : d ≤ k = leb-true d k h in record {
  fits = record { sfits = (let f : d < 2 ^ 63 = omega arith in f) };
  word = omega arith;
}

in_word : (half : ℕ) (z : ℤ) → int_le (neg_ℤ (pos half)) z ≡ true → int_lt z (pos half) ≡ true → half ≤ 2 ^ 63 → IsWord z
in_word half (pos m) above below small = not_negative half m (ltb-true m half below) small
in_word half (negsuc d) above below small = negative half d above small

int_word : (bits : ℕ) (z : ℤ) → 1 ≤ bits → bits ≤ 64 → is_int_of bits z ≡ true → is_int_word bits (word_of z) ≡ true
int_word bits z some few h =
    let small : 2 ^ (bits - 1) ≤ 2 ^ 63 = pow_mono (let l : bits - 1 ≤ 63 = omega arith in l) in
    let hs = and_parts _ _ h in
    let is : IsWord z = in_word (2 ^ (bits - 1)) z hs.0 hs.1 small in
    let back : int_of (word_of z) ≡ z = to_z-of_z {w = w64} {z = z} is.fits in
    both_true _ _ (lt-ltb (word_of z) (2 ^ 64) is.word) (subst (λ n. is_int_of bits n ≡ true) (sym back) h)

nat_word : (bits : ℕ) (z : ℤ) → (int_le (pos 0) z && int_lt z (pos (2 ^ bits))) ≡ true → nat_lt (word_of z) (2 ^ bits) ≡ true
nat_word bits (pos m) h = (and_parts _ _ h).1
nat_word bits (negsuc d) h = absurd (false≢true h)

in_width : (bits : ℕ) → (nat_le 1 bits && nat_le bits 64) ≡ true → (1 ≤ bits) × (bits ≤ 64)
in_width bits h = let hs = and_parts _ _ h in (leb-true 1 bits hs.0, leb-true bits 64 hs.1)

module _ (named : ℕ → Value → Bool) where
  layer_value : (x : Ty-F Ty) → is_number_layer x ≡ true → (z : ℤ) → is_number_of z x ≡ true
      → value_step named (map-Ty Ty (Value → Bool) (is_value_with named) x) (value.Word (word_of z)) ≡ true
  layer_value (Ty-F.Int bits) num z h =
      let width = in_width bits num in
      ap (is_word_of (is_int_word bits)) (out-word (word_of z)) ∙ int_word bits z width.0 width.1 h
  layer_value (Ty-F.Nat bits) num z h = ap (is_word_of (λ word. nat_lt word (2 ^ bits))) (out-word (word_of z)) ∙ nat_word bits z h
  layer_value _ num z h = absurd (false≢true num)

  rolled_value : (x : Ty-F Ty) → is_number_layer x ≡ true → (z : ℤ) → is_number_of z x ≡ true
      → is_value_with named (roll-Ty x) (value.Word (word_of z)) ≡ true
  rolled_value x num z h = ap (λ (t : Value → Bool). t (value.Word (word_of z))) (fold-roll-Ty (Value → Bool) (value_step named) x)
      ∙ layer_value x num z h

  char_value : (w : ℕ) → is_char_word w ≡ true → is_value_with named CharTy (value.Word w) ≡ true
  char_value w h =
      ap (λ t. is_value_with named t (value.Word w)) (sym rolls-Char)
      ∙ ap (λ (t : Value → Bool). t (value.Word w)) (fold-roll-Ty (Value → Bool) (value_step named) Ty-F.Char)
      ∙ ap (is_word_of is_char_word) (out-word w) ∙ h

  truth_value : (b : Bool) → is_value_with named BoolTy (value.Word (word_of_truth b)) ≡ true
  truth_value true = bool-value named (value.Word 1) ∙ ap (is_word_of (λ word. nat_lt word 2)) (out-word 1)
  truth_value false = bool-value named (value.Word 0) ∙ ap (is_word_of (λ word. nat_lt word 2)) (out-word 0)

module _ (types : Types) where
  abbrev named : ℕ → Value → Bool
  named = is_named_value types (length types.sums)

  pub literal-value : (t : Ty) (negative : Bool) (amount : ℕ) → is_number_type t ≡ true → is_too_wide negative amount t ≡ false
      → is_value types t (value.Word (literal_word negative amount)) ≡ true
  literal-value t negative amount num wide =
      subst (λ u. is_value types u (value.Word (literal_word negative amount)) ≡ true) (roll-out-Ty t)
      (rolled_value named (out-Ty t) num (literal_number negative amount) (unnegated _ wide))

  pub letter-value : (byte : ℕ) → is_no_char byte ≡ false → is_value types CharTy (value.Word byte) ≡ true
  letter-value byte wide = char_value named byte (unnegated _ wide)

  pub truth-value : (b : Bool) → is_value types BoolTy (value.Word (word_of_truth b)) ≡ true
  truth-value = truth_value named
