-- Bits as the members of a set.
use Rattle.std.proofs.Common.{◌≡◌, ℕ, zero, suc, ◌*◌, ◌^◌, ◌%◌, ◌<◌, ◌==◌, ◌&&◌, ◌||◌, max, Bool, true, false, refl, ap, ◌∙◌, arith, inl, inr, bit_or}
use Rattle.std.specs.Int.{bit_at}
use Rattle.std.proofs.lemmas.Bool.{cases_eq, eq-eqb, ne_eqb}
use Rattle.std.proofs.lemmas.Nat.{one_shl}
use Rattle.std.proofs.lemmas.Nat.Bits.{bit_at_or, bit_at-lt, bit_at-pow_same, bit_at-pow_other}

either_bit : (m n : ℕ) → m < 2 → n < 2 → (max m n == 1) ≡ ((m == 1) || (n == 1))
either_bit zero zero p q = refl
either_bit zero (suc zero) p q = refl
either_bit (suc zero) zero p q = refl
either_bit (suc zero) (suc zero) p q = refl
either_bit (suc (suc m)) n p q = absurd (omega arith)
either_bit zero (suc (suc n)) p q = absurd (omega arith)
either_bit (suc zero) (suc (suc n)) p q = absurd (omega arith)

-- the members of both
pub bits_or : (a b i : ℕ) → (bit_at (bit_or a b) i == 1) ≡ ((bit_at a i == 1) || (bit_at b i == 1))
bits_or a b i = ap (λ bit. bit == 1) (bit_at_or a b i) ∙ either_bit (bit_at a i) (bit_at b i) (bit_at-lt a i) (bit_at-lt b i)

-- the only member
pub bits_one : (k i : ℕ) → k < 64 → (bit_at (1 * 2 ^ k % 2 ^ 64) i == 1) ≡ (i == k)
bits_one k i lt = ap (λ bits. bit_at bits i == 1) (one_shl k 64 lt) ∙ one
  where
    one : (bit_at (2 ^ k) i == 1) ≡ (i == k)
    one = elim (cases_eq i k) [
      | inl same ↦ rw (same, eq-eqb k k refl) (ap (λ bit. bit == 1) (bit_at-pow_same k))
      | inr other ↦ rw (ne_eqb i k other) (ap (λ bit. bit == 1) (bit_at-pow_other k i other))
    ]

pub and_true : (b : Bool) → (b && true) ≡ b
and_true true = refl
and_true false = refl
