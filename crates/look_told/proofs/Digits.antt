-- The numbers that digits write.
use Rattle.std.proofs.Common.{◌≡◌, ℕ, ◌+◌, ◌-◌, ◌*◌, ◌^◌, ◌<◌, ◌≤◌, min, arith, add-one}
use Rattle.std.proofs.Math.Nat.{pow-suc}

-- so many digits write a number below that power of ten
pub below_step : (number digit i : ℕ) → number < 10 ^ i → digit ≤ 57 → number * 10 + (digit - 48) < 10 ^ (i + 1)
below_step number digit i h small = rw (add-one, pow-suc) (omega arith)
