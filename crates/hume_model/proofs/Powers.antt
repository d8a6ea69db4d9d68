-- Powers of two up to 64 bits.
use Rattle.std.proofs.Common.{◌≡◌, ℕ, suc, zero, ◌*◌, ◌-◌, ◌%◌, ◌^◌, ◌≤◌, arith, lit≤}
use Rattle.std.proofs.lemmas.Grind.{common_steps}
use Rattle.std.proofs.Math.Nat.{pow-suc}
use Rattle.std.proofs.Math.Pow.{pow_mono}
use Rattle.std.proofs.lemmas.Nat.{one_shl}

pub shifted : (bits : ℕ) → bits ≤ 64 → 1 * 2 ^ bits % 2 ^ 128 ≡ 2 ^ bits
shifted bits few = one_shl bits 128 (omega arith)

pub at_most_64_bits : (bits : ℕ) → bits ≤ 64 → 2 ^ bits ≤ 2 ^ 64
at_most_64_bits bits few = pow_mono few

pub half_at_most_63_bits : (bits : ℕ) → bits ≤ 64 → 2 ^ (bits - 1) ≤ 2 ^ 63
half_at_most_63_bits bits few = let fewer : bits - 1 ≤ 63 = omega arith in pow_mono fewer

pub two_halves : (bits : ℕ) → 2 ^ bits ≤ 2 * 2 ^ (bits - 1)
two_halves zero = lit≤ tt
two_halves (suc bits) = let half : suc bits - 1 ≡ bits = omega arith in rw (half, pow-suc 2 bits) (omega arith)

pub ruleset power_steps = (common_steps, shifted, at_most_64_bits, half_at_most_63_bits, two_halves)
