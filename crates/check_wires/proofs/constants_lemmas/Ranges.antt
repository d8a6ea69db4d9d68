-- Which amounts are in the range of a type.
use Rattle.std.proofs.Common.{◌≡◌, ℕ, zero, suc, ◌-◌, ◌^◌, ◌<◌, ◌≤◌, nat_le, nat_lt, ◌==◌, ◌&&◌, min, Bool, true, false, pos, neg_ℤ, if◌then◌else◌, refl, ap, sym, ◌∙◌, arith, inl, inr}
use Rattle.std.proofs.lemmas.Bool.{ne_eqb, le-leb, lt-leb, lt-ltb, cases_lt}
use Rattle.std.proofs.lemmas.Grind.{common_steps}
use Rattle.std.proofs.Math.Pow.{pow_mono}
use Rattle.std.proofs.lemmas.Nat.{pow_pos}
use Rattle.std.specs.Int.RustNames.{int_le, int_lt}
use Rattle.hume_base.specs.Values.{is_int_of}
use Rattle.check_typing.specs.Patterns.{literal_number}

-- by half of the numbers
halved : (half amount : ℕ) (negative : Bool) → 0 < half
    → (int_le (neg_ℤ (pos half)) (literal_number negative amount) && int_lt (literal_number negative amount) (pos half))
    ≡ (if negative then nat_le amount half else nat_lt amount half)
halved zero amount negative some = absurd (omega arith)
halved (suc h) amount false some = refl
halved (suc h) zero true some = lt-ltb 0 (suc h) (omega arith) ∙ sym (le-leb 0 (suc h) (omega arith))
halved (suc h) (suc a) true some = elim (cases_lt a (suc h)) [
  | inl below ↦ rw (le-leb a h (omega arith)) (sym (le-leb (suc a) (suc h) (omega arith)))
  | inr above ↦ rw (lt-leb a h (omega arith)) (sym (lt-leb (suc a) (suc h) (omega arith)))
]

large : (bits : ℕ) → 64 ≤ bits → 2 ^ 64 ≤ 2 ^ bits
large bits h = pow_mono h

-- an amount of 64 bits is below a power, where it is below that of 64 bits at most
below_power : (bits amount : ℕ) → amount < 2 ^ 64 → nat_lt amount (2 ^ min bits 64) ≡ nat_lt amount (2 ^ bits)
below_power bits amount small = elim (cases_lt bits 64) [
  | inl few ↦ ap (λ k. nat_lt amount (2 ^ k)) (let e : min bits 64 ≡ bits = omega arith in e)
  | inr many ↦ let limit = large bits many in
      ap (λ k. nat_lt amount (2 ^ k)) (let e : min bits 64 ≡ 64 = omega arith in e) ∙ lt-ltb amount (2 ^ 64) small ∙ sym (lt-ltb amount (2 ^ bits) (omega (arith, limit)))
]

within_power : (bits amount : ℕ) → amount < 2 ^ 64 → nat_le amount (2 ^ min bits 64) ≡ nat_le amount (2 ^ bits)
within_power bits amount small = elim (cases_lt bits 64) [
  | inl few ↦ ap (λ k. nat_le amount (2 ^ k)) (let e : min bits 64 ≡ bits = omega arith in e)
  | inr many ↦ let limit = large bits many in
      ap (λ k. nat_le amount (2 ^ k)) (let e : min bits 64 ≡ 64 = omega arith in e) ∙ le-leb amount (2 ^ 64) (omega arith) ∙ sym (le-leb amount (2 ^ bits) (omega (arith, limit)))
]

pub int_negative : (bits amount : ℕ) → amount < 2 ^ 64 → nat_le amount (2 ^ min (bits - 1) 64) ≡ is_int_of bits (literal_number true amount)
int_negative bits amount small = within_power (bits - 1) amount small ∙ sym (halved (2 ^ (bits - 1)) amount true (pow_pos (bits - 1)))

pub int_positive : (bits amount : ℕ) → amount < 2 ^ 64 → nat_lt amount (2 ^ min (bits - 1) 64) ≡ is_int_of bits (literal_number false amount)
int_positive bits amount small = below_power (bits - 1) amount small ∙ sym (halved (2 ^ (bits - 1)) amount false (pow_pos (bits - 1)))

pub nat_positive : (bits amount : ℕ) → amount < 2 ^ 64
    → nat_lt amount (2 ^ min bits 64) ≡ (int_le (pos 0) (literal_number false amount) && int_lt (literal_number false amount) (pos (2 ^ bits)))
nat_positive bits amount small =
    below_power bits amount small ∙ sym (ap (λ b. b && nat_lt amount (2 ^ bits)) (le-leb 0 amount (omega arith)))

pub nat_negative : (bits amount : ℕ) → (amount == 0) ≡ (int_le (pos 0) (literal_number true amount) && int_lt (literal_number true amount) (pos (2 ^ bits)))
nat_negative bits zero = sym (lt-ltb 0 (2 ^ bits) (pow_pos bits))
nat_negative bits (suc a) = ne_eqb (suc a) 0 (omega arith)

pub ruleset range_steps = (common_steps, int_negative, int_positive, nat_positive, nat_negative)
